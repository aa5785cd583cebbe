-- A gate more.
use Rattle.std.proofs.Common.{◌≡◌, ℕ, ◌+◌, ◌<◌, ◌≤◌, List, [], ◌∷◌, ◌++◌, length, map, take, refl, sym, ap, ap₂, subst, ◌∙◌, arith, inl, inr}
use Rattle.std.specs.Prelude.{Bool, true, false, not, cond, nat_eq, Contains}
use Rattle.std.specs.Bool.{beq}
use Rattle.std.specs.List.{list_any}
use Rattle.std.proofs.lemmas.Bool.{and_parts, or_cases, not-true, eq-eqb, ne_eqb, false≢true, cases_lt}
use Rattle.std.proofs.lemmas.List.Elements.{All-nil, All-append, All-cons, All-head, All-tail, All-contains, Contains-append_left, Contains-append_right}
use Rattle.std.proofs.lemmas.List.{take_all}
use Rattle.std.proofs.lemmas.List.Folds.{Any-from_list_any}
use Rattle.px_cnf.specs.declared.literal.Literal.{Literal}
use Rattle.px_cnf.specs.declared.circuit.Row.{Row}
use Rattle.px_cnf.specs.Clauses.{Assignment, holds, negated, is_met, Meets, AreBelow, AreClausesBelow, Forced, is_given, by_unit}
use Rattle.px_cnf.specs.Circuits.{Gates, TrueBelow, Settles, IsCircuit, Grows, literal, Entry, entry_of, entry_clause, gives, IsTable, IsGate}
use Rattle.px_cnf.proofs.Meeting.{contains_cases, contains_head, none_passes, holds-negated, holds_same, are_met_same, meets_both, meets_parts, meets_at, below_more, clauses_below_more, forced_more}

-- the gates with one more of this table
abbrev pub with_gate : Gates → List Entry → Gates
with_gate g es = record { inputs = g.inputs; variables = g.variables + 1; clauses = g.clauses ++ map (entry_clause g.variables) es }

-- the assignment with another value for one variable
abbrev with_value : Assignment → ℕ → Bool → Assignment
with_value a z r x = cond (nat_eq x z) r (a x)

at_value : (a : Assignment) (z : ℕ) (r : Bool) → with_value a z r z ≡ r
at_value a z r = rw (eq-eqb z z refl) refl

other_value : (a : Assignment) (z : ℕ) (r : Bool) (x : ℕ) → x < z → with_value a z r x ≡ a x
other_value a z r x l = rw (ne_eqb x z (λ e. omega arith)) refl

-- the entries whose rows stand in a list
contains_clause : (z : ℕ) (es : List Entry) (e : Entry) → Contains es e → Contains (map (entry_clause z) es) (entry_clause z e)
contains_clause z [] e (k, l, h) = absurd (omega arith)
contains_clause z (d ∷ ds) e c = elim (contains_cases d e ds c) [
  | inl h ↦ subst (λ (x : Entry). Contains (entry_clause z d ∷ map (entry_clause z) ds) (entry_clause z x)) h (contains_head (entry_clause z d) (map (entry_clause z) ds))
  | inr h ↦ Contains-append_right (entry_clause z d ∷ []) (map (entry_clause z) ds) (entry_clause z e) (contains_clause z ds e h)
]

same_sign : (s r : Bool) → beq s r ≡ true → s ≡ r
same_sign true true h = refl
same_sign true false h = absurd (false≢true h)
same_sign false true h = absurd (false≢true h)
same_sign false false h = refl

-- the entry that gives the output
record Giving (a : Assignment) (r : Bool) (es : List Entry) : Type 0 where
  entry : Entry
  stands : Contains es entry
  sign : entry.positive ≡ r
  bare : is_met a entry.unless ≡ false

giving : (a : Assignment) (r : Bool) (es : List Entry) → list_any (gives a r) es ≡ true → Giving a r es
giving a r es h =
    let (k, e, l, q, g) = Any-from_list_any (gives a r) es h in
    let (s, n) = and_parts (beq e.positive r) (not (is_met a e.unless)) g in
    record { entry = e; stands = (k, l, q); sign = same_sign e.positive r s; bare = not-true (is_met a e.unless) n }

value_of_literal : (v s : Bool) → cond s v (not v) ≡ true → v ≡ s
value_of_literal true true h = refl
value_of_literal true false h = absurd (false≢true h)
value_of_literal false true h = absurd (false≢true h)
value_of_literal false false h = refl

-- what the clauses of a table say of the output
pub output_is : (z : ℕ) (output : Assignment → Bool) (es : List Entry) (t : IsTable z output es) (a : Assignment) → Meets a (map (entry_clause z) es) → a z ≡ output a
output_is z output es t a h =
    let g = giving a (output a) es (t.given a) in
    let m = meets_at a (map (entry_clause z) es) (entry_clause z g.entry) h (contains_clause z es g.entry g.stands) in
    elim (or_cases (holds a (literal z g.entry.positive)) (is_met a g.entry.unless) m) [
      | inl e ↦ value_of_literal (a z) g.entry.positive e ∙ g.sign
      | inr e ↦ absurd (false≢true (sym g.bare ∙ e))
    ]

module _ (g : Gates) (es : List Entry) (c : IsCircuit g) (output : Assignment → Bool) (t : IsTable g.variables output es) (a : Assignment) where
  abbrev before : Settles g a
  before = c.settles a

  abbrev value : Bool
  value = output before.result

  abbrev after : Assignment
  after = with_value before.result g.variables value

  same_before : (x : ℕ) → x < g.variables → after x ≡ before.result x
  same_before x l = other_value before.result g.variables value x l

  new_value : after g.variables ≡ output after
  new_value = at_value before.result g.variables value ∙ sym (t.depends before.result after same_before)

  met_after : Meets after (with_gate g es).clauses
  met_after = meets_both after g.clauses (map (entry_clause g.variables) es)
      (are_met_same g.variables before.result after g.clauses same_before c.below ∙ before.met) (t.met after new_value)

  old_forced : (l : Literal) → l.variable < g.variables → holds after l ≡ true → Forced (with_gate g es).clauses (TrueBelow g.inputs a) l
  old_forced l k h = forced_more g.clauses (with_gate g es).clauses (TrueBelow g.inputs a) (TrueBelow g.inputs a) l
      (λ d. Contains-append_left g.clauses (map (entry_clause g.variables) es) d) (λ m. is_given)
      (before.forced l k (sym (holds_same g.variables before.result after l same_before k) ∙ h))

  new_forced : (l : Literal) → l.variable ≡ g.variables → holds after l ≡ true → Forced (with_gate g es).clauses (TrueBelow g.inputs a) l
  new_forced l k h =
      let w = giving after (output after) es (t.given after) in
      let clause = entry_clause g.variables w.entry in
      let sign : w.entry.positive ≡ l.positive =
      w.sign ∙ sym new_value ∙ sym (ap after k) ∙ value_of_literal (after l.variable) l.positive h in
      let is_head : literal g.variables w.entry.positive ≡ l = ap₂ literal (sym k) sign in
      let below = All-contains (AreBelow g.variables) (map (λ (e : Entry). e.unless) es) w.entry.unless t.below (contains_unless es w.entry w.stands) in
      by_unit clause
      (Contains-append_right g.clauses (map (entry_clause g.variables) es) clause (contains_clause g.variables es w.entry w.stands))
      (subst (Contains clause) is_head (contains_head (literal g.variables w.entry.positive) w.entry.unless))
      (λ m i o. elim (contains_cases (literal g.variables w.entry.positive) m w.entry.unless i) [
        | inl e ↦ absurd (o (sym e ∙ is_head))
        | inr e ↦ old_forced (negated m) (All-contains (λ (x : Literal). x.variable < g.variables) w.entry.unless m below e)
            (holds-negated after m ∙ ap not (none_passes (holds after) w.entry.unless m w.bare e))
      ])
    where
      contains_unless : (ds : List Entry) (e : Entry) → Contains ds e → Contains (map (λ (d : Entry). d.unless) ds) e.unless
      contains_unless [] e (k, l, h) = absurd (omega arith)
      contains_unless (d ∷ ds) e q = elim (contains_cases d e ds q) [
        | inl h ↦ subst (λ (x : Entry). Contains (d.unless ∷ map (λ (d : Entry). d.unless) ds) x.unless) h (contains_head d.unless (map (λ (d : Entry). d.unless) ds))
        | inr h ↦ Contains-append_right (d.unless ∷ []) (map (λ (d : Entry). d.unless) ds) e.unless (contains_unless ds e h)
      ]

  settled : Settles (with_gate g es) a
  settled = record {
    result = after;
    same = λ x l. same_before x (let i = c.inside in omega arith) ∙ before.same x l;
    met = met_after;
    forced = λ l k h. elim (cases_lt l.variable g.variables) [
      | inl i ↦ old_forced l i h
      | inr i ↦ new_forced l (omega arith) h
    ];
  }

pub circuit_defined : (g : Gates) (es : List Entry) → IsCircuit g → IsGate g.variables es → IsCircuit (with_gate g es)
circuit_defined g es c d = record {
  inside = let i = c.inside in omega arith;
  below = All-append (AreBelow (g.variables + 1)) g.clauses (map (entry_clause g.variables) es)
      (clauses_below_more g.variables (g.variables + 1) g.clauses (omega arith) c.below) (rows_below es d.table.below);
  settles = λ a. settled g es c d.output d.table a;
}
  where
    rows_below : (ds : List Entry) → AreClausesBelow g.variables (map (λ (e : Entry). e.unless) ds) → AreClausesBelow (g.variables + 1) (map (entry_clause g.variables) ds)
    rows_below [] h = λ k d l. absurd (omega arith)
    rows_below (e ∷ ds) h =
        All-cons (AreBelow (g.variables + 1)) (entry_clause g.variables e) (map (entry_clause g.variables) ds)
        (All-cons (λ (l : Literal). l.variable < g.variables + 1) (literal g.variables e.positive) e.unless (omega arith)
        (below_more g.variables (g.variables + 1) e.unless (omega arith) (All-head (AreBelow g.variables) e.unless (map (λ (x : Entry). x.unless) ds) h)))
        (rows_below ds (All-tail (AreBelow g.variables) e.unless (map (λ (x : Entry). x.unless) ds) h))

pub grows_defined : (g : Gates) (es : List Entry) → IsCircuit (with_gate g es) → Grows g (with_gate g es)
grows_defined g es c = record {
  circuit = c;
  inputs = refl;
  variables = omega arith;
  clauses = λ a h. (meets_parts a g.clauses (map (entry_clause g.variables) es) h).0;
}

-- ---- a circuit without gates

pub new_circuit : (n : ℕ) → IsCircuit (record { inputs = n; variables = n; clauses = [] })
new_circuit n = record {
  inside = omega arith;
  below = All-nil (AreBelow n);
  settles = λ a. record { result = a; same = λ x l. refl; met = refl; forced = λ l k h. is_given (k, h) };
}

-- ---- rows as the code holds them

pub clauses_of_rows : (z : ℕ) (rows : List Row) → map (entry_clause z) (map entry_of rows) ≡ map (λ (r : Row). entry_clause z (entry_of r)) rows
clauses_of_rows z [] = refl
clauses_of_rows z (r ∷ rows) = ap (λ cs. entry_clause z (entry_of r) ∷ cs) (clauses_of_rows z rows)

pub grows_by_rows : (g : Gates) (rows : List Row) (inputs variables n : ℕ) (clauses : List (List Literal)) → IsCircuit g → IsGate g.variables (map entry_of rows)
    → inputs ≡ g.inputs → variables ≡ g.variables + 1 → length rows ≤ n
    → clauses ≡ g.clauses ++ map (λ (r : Row). entry_clause g.variables (entry_of r)) (take n rows)
    → Grows g (record { inputs = inputs; variables = variables; clauses = clauses })
grows_by_rows g rows inputs variables n clauses c d hi hv l e =
    rw (hi, hv) (subst (λ (cs : List (List Literal)). Grows g (record { inputs = g.inputs; variables = g.variables + 1; clauses = cs }))
    (ap (λ cs. g.clauses ++ cs) (clauses_of_rows g.variables rows ∙ ap (map (λ (r : Row). entry_clause g.variables (entry_of r))) (sym (take_all n rows l))) ∙ sym e)
    (grows_defined g (map entry_of rows) (circuit_defined g (map entry_of rows) c d)))

pub met_by_rows : (z n : ℕ) (old clauses : List (List Literal)) (rows : List Row) → length rows ≤ n
    → clauses ≡ old ++ map (λ (r : Row). entry_clause z (entry_of r)) (take n rows)
    → (a : Assignment) → Meets a clauses → Meets a (map (entry_clause z) (map entry_of rows))
met_by_rows z n old clauses rows l e a h =
    rw clauses_of_rows (meets_parts a old (map (λ (r : Row). entry_clause z (entry_of r)) rows)
    (subst (Meets a) (e ∙ ap (λ (rs : List Row). old ++ map (λ (r : Row). entry_clause z (entry_of r)) rs) (take_all n rows l)) h)).1
