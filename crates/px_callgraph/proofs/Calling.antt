-- The calls of bodies in a list.
use Rattle.std.proofs.Common.{◌≡◌, ◌↔◌, inl, inr, ℕ, ◌+◌, ◌<◌, List, [], ◌∷◌, ◌++◌, length, get_or, set, sym, subst, ap, ◌∙◌, arith}
use Rattle.std.specs.Prelude.{All, Option, Some, IsSomeAnd, slice_get, option_map}
use Rattle.std.proofs.lemmas.Bool.{cases_eq, cases_lt}
use Rattle.std.proofs.lemmas.Option.{slice_get_past}
use Rattle.std.proofs.lemmas.List.Elements.{Contains-get_or}
use Rattle.px_core.specs.declared.body.Body.{Body}
use Rattle.px_core.specs.BodyTree.{BodyTree, body_tree}
use Rattle.px_components.specs.Graphs.{IsEdge}
use Rattle.px_components.proofs.Edges.{edge_added}
use Rattle.px_callgraph.specs.Callees.{NamedIn, IsCallee}
use Rattle.px_callgraph.specs.CallGraphs.{bodies_in}
use Rattle.px_callgraph.specs.NameLists.{names_in}
use Rattle.px_callgraph.specs.Working.{Gains, GainsCalls, GainsFrom}
use Rattle.px_callgraph.proofs.Naming.{all_listed}

-- edges to all that a list of names has are calls
pub as_calls : (old new : List (List ℕ)) (f : ℕ) (b : BodyTree) → Gains old f (names_in b.commands) new → GainsCalls old f b new
as_calls old new f b h = record {
  size = h.size;
  edges = λ x y. (
    λ e. elim ((h.edges x y).0 e) [ inl o ↦ inl o | inr o ↦ inr (o.0, (all_listed y b.commands).0 o.1) ],
    λ e. (h.edges x y).1 (elim e [ inl o ↦ inl o | inr o ↦ inr (o.0, (all_listed y b.commands).1 o.1) ]),
  );
}

pub named_inside : (n : ℕ) (b : BodyTree) → ((g : ℕ) → NamedIn g b.commands → g < n) → All (λ g. g < n) (names_in b.commands)
named_inside n b h k d l = h (get_or (names_in b.commands) k d) ((all_listed _ b.commands).0 (Contains-get_or (names_in b.commands) k d l))

pub callee_at : (bodies : List Body) (i y : ℕ) (b : Body) → slice_get bodies i ≡ Some b → IsCallee (bodies_in bodies) i y ↔ NamedIn y (body_tree b).commands
callee_at bodies i y b e = (
  subst (λ (o : Option Body). IsSomeAnd (option_map body_tree o) (λ (t : BodyTree). NamedIn y t.commands)) e,
  subst (λ (o : Option Body). IsSomeAnd (option_map body_tree o) (λ (t : BodyTree). NamedIn y t.commands)) (sym e),
)

-- who calls has a body
pub caller_inside : (bodies : List Body) (x y : ℕ) → IsCallee (bodies_in bodies) x y → x < length bodies
caller_inside bodies x y h = elim (cases_lt x (length bodies)) [
  | inl l ↦ l
  | inr l ↦ absurd (subst (λ (o : Option Body). IsSomeAnd (option_map body_tree o) (λ (t : BodyTree). NamedIn y t.commands)) (slice_get_past bodies x l) h)
]

-- the calls of one body more
pub calls_more : (bodies : List Body) (i : ℕ) (b : Body) (mid new : List (List ℕ)) → slice_get bodies i ≡ Some b →
    ((x y : ℕ) → IsEdge mid x y ↔ ((x < i) × IsCallee (bodies_in bodies) x y)) → GainsCalls mid i (body_tree b) new →
    (x y : ℕ) → IsEdge new x y ↔ ((x < i + 1) × IsCallee (bodies_in bodies) x y)
calls_more bodies i b mid new at before h x y = (
  λ e. elim ((h.edges x y).0 e) [
    | inl o ↦ (let p = (before x y).0 o in let l = p.0 in (omega arith, p.1))
    | inr o ↦ (let s = o.0 in (omega arith, subst (λ z. IsCallee (bodies_in bodies) z y) (sym s) ((callee_at bodies i y b at).1 o.1)))
  ],
  λ p. (h.edges x y).1 (elim (cases_eq x i) [
    | inl s ↦ inr (s, (callee_at bodies i y b at).0 (subst (λ z. IsCallee (bodies_in bodies) z y) s p.1))
    | inr d ↦ (let l = p.0 in inl ((before x y).1 (omega arith, p.1)))
  ]),
)

-- the edges from one node more, turned round
pub turned_more : (graph mid new : List (List ℕ)) (n : ℕ) → ((x y : ℕ) → IsEdge mid x y ↔ ((y < n) × IsEdge graph y x)) → GainsFrom mid (get_or graph n []) n new →
    (x y : ℕ) → IsEdge new x y ↔ ((y < n + 1) × IsEdge graph y x)
turned_more graph mid new n before h x y = (
  λ e. elim ((h.edges x y).0 e) [
    | inl o ↦ (let p = (before x y).0 o in let l = p.0 in (omega arith, p.1))
    | inr o ↦ (let s = o.1 in (omega arith, subst (λ z. IsEdge graph z x) (sym s) o.0))
  ],
  λ p. (h.edges x y).1 (elim (cases_eq y n) [
    | inl s ↦ inr (subst (λ z. IsEdge graph z x) s p.1, s)
    | inr d ↦ (let l = p.0 in inl ((before x y).1 (omega arith, p.1)))
  ]),
)

-- one node more, under its number
pub grouped_more : (numbers : List ℕ) (mid new : List (List ℕ)) (i : ℕ) → get_or numbers i 0 < length mid →
    new ≡ set mid (get_or numbers i 0) (get_or mid (get_or numbers i 0) [] ++ i ∷ []) →
    ((n x : ℕ) → IsEdge mid n x ↔ ((x < i) × (get_or numbers x 0 ≡ n))) →
    (n x : ℕ) → IsEdge new n x ↔ ((x < i + 1) × (get_or numbers x 0 ≡ n))
grouped_more numbers mid new i inside is before n x =
    let a = edge_added mid (get_or numbers i 0) i inside n x in (
      λ e. elim (a.0 (subst (λ (g : List (List ℕ)). IsEdge g n x) is e)) [
        | inl o ↦ (let p = (before n x).0 o in let l = p.0 in (omega arith, p.1))
        | inr o ↦ (let s = o.1 in (omega arith, ap (λ z. get_or numbers z 0) s ∙ sym o.0))
      ],
      λ p. subst (λ (g : List (List ℕ)). IsEdge g n x) (sym is) (a.1 (elim (cases_eq x i) [
        | inl s ↦ inr (sym p.1 ∙ ap (λ z. get_or numbers z 0) s, s)
        | inr d ↦ (let l = p.0 in inl ((before n x).1 (omega arith, p.1)))
      ])),
    )
