-- Where a pointer is known to lead to a block, no way leads to another.
use Rattle.std.proofs.Common.{◌≡◌, ◌≢◌, ◌⊎◌, ◌||◌, inl, inr, ℕ, zero, suc, Bool, true, false, not, cond, List, [], ◌∷◌, ◌++◌, map, slice_get, Option, Some, None, refl, ap, sym, ◌∙◌, subst, Bor}
use Rattle.std.specs.Prelude.{All, Contains, filter, is_some, option_map, IfSome, IsSomeAnd}
use Rattle.std.proofs.lemmas.Bool.{ne_eqb}
use Rattle.std.proofs.lemmas.List.Elements.{All-head, All-tail, All-contains}
use Rattle.px_base.specs.declared.trace.Site.{Site}
use Rattle.px_base.specs.declared.trace.FieldId.{FieldId}
use Rattle.px_terms.specs.Conjuncts.{IsPlain, IsTrueUnder}
use Rattle.px_terms.specs.Valuations.{Valuation}
use Rattle.px_terms.specs.declared.types.TypeId.{TypeId}
use Rattle.px_terms.specs.declared.variables.Var.{Var}
use Rattle.px_terms.specs.declared.variables.VarInfo.{VarInfo}
use Rattle.px_terms.specs.declared.conjuncts.Place.TheVariants as place
use Rattle.px_terms.specs.declared.conjuncts.Conj.{Conj}
use Rattle.px_terms.specs.declared.conjuncts.Conj.TheVariants.{OtherPlace}
use Rattle.px_terms.proofs.Evaluation.{All-left, All-right}
use Rattle.px_terms.proofs.Tests.{same_number}
use Rattle.px_plain.specs.Models.{IsPlainlyRefuted}
use Rattle.px_core.specs.declared.command.Operand.{Operand}
use Rattle.px_core.specs.declared.command.Command.{Command}
use Rattle.px_core.specs.declared.command.Command.TheVariants as C
use Rattle.px_core.specs.CommandTree.{command_tree}
use Rattle.px_core.specs.Control.{Item, Act}
use Rattle.px_entry.specs.declared.atoms.Atom.{Atom}
use Rattle.px_entry.specs.Sorts.{is_made}
use Rattle.px_entry.specs.Decided.{is_true, decided}
use Rattle.px_entry.specs.Constraint.{found_atoms, same_block, apart_from, apart_all, separate, constraint_of}
use Rattle.px_callgraph.specs.declared.states.State.{State}
use Rattle.px_callgraph.specs.declared.states.Way.{Way}
use Rattle.px_callgraph.specs.declared.states.Way.TheVariants as way
use Rattle.px_callgraph.specs.JobTree.{JobTree}
use Rattle.px_callgraph.specs.Alternatives.{Walk, at}
use Rattle.px_walks.specs.declared.control.Upcoming.{Upcoming}
use Rattle.px_walks.specs.declared.control.Upcoming.TheVariants as U
use Rattle.px_walks.specs.Nexts.{IsNext}
use Rattle.px_symexec.proofs.Lists.{IsIn, in_left, in_right}
use Rattle.px_explore.specs.declared.known.Known.{Known}
use Rattle.px_explore.specs.Said.{IsNew, IsJoined}
use Rattle.px_explore.specs.Missed.{IsThrough}
use Rattle.px_explore.specs.Thinned.{IsShut, MayBeThinned}
use Rattle.px_explore.specs.Known.{same_places, GoesThrough, LeadsTo, IsKnown, IsOther, LeadsElsewhere}
use Rattle.px_explore.proofs.SaidLemmas.{load_said, store_said, free_said, at_walk}
use Rattle.px_explore.proofs.ThinLemmas.{new_by_refuted, shut_by}

-- ---- two blocks are apart

abbrev differ : Atom → Atom → Conj
differ a b = OtherPlace (place.Var a.place) (place.Var b.place)

-- an item that passes the test is chosen
in_filter : {A : Type 0} (test : A → Bool) (x : A) (xs : List A) → IsIn x xs → test x ≡ true → IsIn x (filter test xs)
in_filter test x [] h e = absurd h
in_filter {A} test x (y ∷ xs) (inl same) e = by (test y) (sym (ap test same) ∙ e)
  where
    by : (b : Bool) → b ≡ true → IsIn x (cond b (y ∷ filter test xs) (filter test xs))
    by true f = inl same
    by false f = cc
in_filter {A} test x (y ∷ xs) (inr h) e = by (test y) (in_filter test x xs h e)
  where
    by : (b : Bool) → IsIn x (filter test xs) → IsIn x (cond b (y ∷ filter test xs) (filter test xs))
    by true k = inr k
    by false k = k

module _ (P : Conj → Type 0) (vars : List VarInfo) where
  -- from each of these
  of_each : (b e : Atom) (others : List Atom) → IsIn e others → All P (map (λ (a : Atom). OtherPlace (place.Var b.place) (place.Var a.place)) others) → P (differ b e)
  of_each b e [] i h = absurd i
  of_each b e (a ∷ others) (inl same) h = subst (λ z. P (differ b z)) (sym same) (All-head P _ _ h)
  of_each b e (a ∷ others) (inr i) h = of_each b e others i (All-tail P _ _ h)

  from_earlier : (earlier : List Atom) (b e : Atom) → IsIn e earlier → same_block b e ≡ true → All P (apart_from earlier b) → P (differ b e)
  from_earlier earlier b e i same h = of_each b e (filter (same_block b) earlier) (in_filter (same_block b) e earlier i same) (All-tail P _ _ h)

  -- one that was met after it
  of_later : (earlier atoms : List Atom) (e b : Atom) (m : ℕ) → IsIn e earlier → slice_get atoms m ≡ Some b → is_made vars b.place.0 ≡ false → same_block b e ≡ true → All P (apart_all earlier (found_atoms vars atoms)) →
      P (differ b e)
  of_later earlier [] e b m i f n same h = none m f
    where
      none : (m : ℕ) → slice_get [] m ≡ Some b → P (differ b e)
      none zero f = cc
      none (suc m) f = cc
  of_later earlier (x ∷ rest) e b zero i f n same h =
      let is : x ≡ b = cc in
      let found : is_made vars x.place.0 ≡ false = ap (λ (a : Atom). is_made vars a.place.0) is ∙ n in
      subst (λ z. P (differ z e)) is
      (from_earlier earlier x e i (ap (λ z. same_block z e) is ∙ same)
      (All-left P (apart_from earlier x) (apart_all (earlier ++ x ∷ []) (found_atoms vars rest)) (subst (λ z. All P (apart_all earlier (cond (not z) (x ∷ found_atoms vars rest) (found_atoms vars rest)))) found h)))
  of_later earlier (x ∷ rest) e b (suc m) i f n same h =
      by (is_made vars x.place.0) (λ k. of_later earlier rest e b m i f n same k) (λ k. of_later (earlier ++ x ∷ []) rest e b m (in_left e earlier (x ∷ []) i) f n same k) h
    where
      by : (made : Bool) → (All P (apart_all earlier (found_atoms vars rest)) → P (differ b e)) → (All P (apart_all (earlier ++ x ∷ []) (found_atoms vars rest)) → P (differ b e)) →
          All P (apart_all earlier (cond (not made) (x ∷ found_atoms vars rest) (found_atoms vars rest))) → P (differ b e)
      by true skips goes h = skips h
      by false skips goes h = goes (All-right P (apart_from earlier x) (apart_all (earlier ++ x ∷ []) (found_atoms vars rest)) h)

  -- any two that were met
  two_apart : (earlier atoms : List Atom) (a b : Atom) (n m : ℕ) → slice_get atoms n ≡ Some a → slice_get atoms m ≡ Some b → a.place.0 ≢ b.place.0 → is_made vars a.place.0 ≡ false → is_made vars b.place.0 ≡ false →
      same_block a b ≡ true → same_block b a ≡ true → All P (apart_all earlier (found_atoms vars atoms)) → P (differ a b) ⊎ P (differ b a)
  two_apart earlier [] a b n m f g d p q s t h = none n f
    where
      none : (n : ℕ) → slice_get [] n ≡ Some a → P (differ a b) ⊎ P (differ b a)
      none zero f = cc
      none (suc n) f = cc
  two_apart earlier (x ∷ rest) a b zero zero f g d p q s t h = absurd (d (let is : a ≡ b = cc in ap (λ (z : Atom). z.place.0) is))
  two_apart earlier (x ∷ rest) a b zero (suc m) f g d p q s t h =
      let is : x ≡ a = cc in
      let found : is_made vars x.place.0 ≡ false = ap (λ (z : Atom). is_made vars z.place.0) is ∙ p in
      let all : All P (apart_from earlier x ++ apart_all (earlier ++ x ∷ []) (found_atoms vars rest)) =
      subst (λ z. All P (apart_all earlier (cond (not z) (x ∷ found_atoms vars rest) (found_atoms vars rest)))) found h in
      inr (subst (λ z. P (differ b z)) is
      (of_later (earlier ++ x ∷ []) rest x b m (in_right x earlier (x ∷ []) (inl refl)) g q (ap (same_block b) is ∙ t) (All-right P (apart_from earlier x) (apart_all (earlier ++ x ∷ []) (found_atoms vars rest)) all)))
  two_apart earlier (x ∷ rest) a b (suc n) zero f g d p q s t h =
      let is : x ≡ b = cc in
      let found : is_made vars x.place.0 ≡ false = ap (λ (z : Atom). is_made vars z.place.0) is ∙ q in
      let all : All P (apart_from earlier x ++ apart_all (earlier ++ x ∷ []) (found_atoms vars rest)) =
      subst (λ z. All P (apart_all earlier (cond (not z) (x ∷ found_atoms vars rest) (found_atoms vars rest)))) found h in
      inl (subst (λ z. P (differ a z)) is
      (of_later (earlier ++ x ∷ []) rest x a n (in_right x earlier (x ∷ []) (inl refl)) f p (ap (same_block a) is ∙ s) (All-right P (apart_from earlier x) (apart_all (earlier ++ x ∷ []) (found_atoms vars rest)) all)))
  two_apart earlier (x ∷ rest) a b (suc n) (suc m) f g d p q s t h =
      by (is_made vars x.place.0) (λ k. two_apart earlier rest a b n m f g d p q s t k) (λ k. two_apart (earlier ++ x ∷ []) rest a b n m f g d p q s t k) h
    where
      by : (made : Bool) → (All P (apart_all earlier (found_atoms vars rest)) → P (differ a b) ⊎ P (differ b a)) →
          (All P (apart_all (earlier ++ x ∷ []) (found_atoms vars rest)) → P (differ a b) ⊎ P (differ b a)) →
          All P (apart_all earlier (cond (not made) (x ∷ found_atoms vars rest) (found_atoms vars rest))) → P (differ a b) ⊎ P (differ b a)
      by true skips goes h = skips h
      by false skips goes h = goes (All-right P (apart_from earlier x) (apart_all (earlier ++ x ∷ []) (found_atoms vars rest)) h)

-- ---- the pointer isn't that of another block

undecided : (vars : List VarInfo) (x y : Var) → y.0 ≢ x.0 → is_true (decided vars (same_places x y)) ≡ false
undecided vars x y d =
    ap (λ b. is_true (elim b as (λ _. Option Bool) [ true ↦ Some true | false ↦ elim (is_made vars x.0 || is_made vars y.0) as (λ _. Option Bool) [ true ↦ Some false | false ↦ None ] ])) (ne_eqb x.0 y.0 (λ e. d (sym e)))
    ∙ by (is_made vars x.0 || is_made vars y.0)
  where
    by : (b : Bool) → is_true (elim b as (λ _. Option Bool) [ true ↦ Some false | false ↦ None ]) ≡ false
    by true = refl
    by false = refl

refuted_elsewhere : (s : State) (k : Known) (n : ℕ) (b : Atom) → LeadsTo s k → slice_get s.atoms n ≡ Some b → IsOther s.vars k b → IsPlainlyRefuted s.vars (constraint_of s.vars (s.pure ++ same_places k.pointer b.place ∷ []) s.atoms)
refuted_elsewhere s k n b l e (other, apart, type, found) = λ v f m.
    let P = λ (c : Conj). IsPlain c → IsTrueUnder v c in
    let c = same_places k.pointer b.place in
    let a = l.met.among.atom in
    let pure : All P (s.pure ++ c ∷ []) = All-left P (s.pure ++ c ∷ []) (separate s.vars s.atoms) m in
    let apart_all' : All P (separate s.vars s.atoms) = All-right P (s.pure ++ c ∷ []) (separate s.vars s.atoms) m in
    let there : v k.pointer.0 ≡ v b.place.0 = (All-head P c [] (All-right P s.pure (c ∷ []) pure) tt).1 in
    let here : v k.pointer.0 ≡ v k.place.0 = known v (All-left P s.pure (c ∷ []) pure) l.same in
    let met : v k.place.0 ≡ v a.place.0 = ap v (sym l.met.among.place_is) in
    let same : v a.place.0 ≡ v b.place.0 = sym (here ∙ met) ∙ there in
    let blocks : a.block.0 ≡ b.block.0 = l.met.among.block_is ∙ sym type in
    by v same
    (two_apart P s.vars [] s.atoms a b l.met.among.number n l.met.among.atom_is e (λ z. apart (sym z ∙ l.met.among.place_is)) (ap (is_made s.vars) l.met.among.place_is ∙ l.met.found) found
    (same_number a.block.0 b.block.0 blocks) (same_number b.block.0 a.block.0 (sym blocks)) apart_all')
  where
    known : (v : Valuation) → All (λ (c : Conj). IsPlain c → IsTrueUnder v c) s.pure → (k.pointer.0 ≡ k.place.0) ⊎ Contains s.pure (same_places k.pointer k.place) → v k.pointer.0 ≡ v k.place.0
    known v h (inl e) = ap v e
    known v h (inr i) = (All-contains (λ (c : Conj). IsPlain c → IsTrueUnder v c) s.pure (same_places k.pointer k.place) h i tt).1

    by : (v : Valuation) → v l.met.among.atom.place.0 ≡ v b.place.0 →
        (IsPlain (differ l.met.among.atom b) → IsTrueUnder v (differ l.met.among.atom b)) ⊎ (IsPlain (differ b l.met.among.atom) → IsTrueUnder v (differ b l.met.among.atom)) → ⊥
    by v same (inl h) = (h tt).1 same
    by v same (inr h) = (h tt).1 (sym same)

-- a way to another block is shut
pub shut_elsewhere : (j : JobTree) (w : Walk) (k : Known) (name : Way) → MayBeThinned j w.state → IsKnown w k → LeadsElsewhere w.state k name → IsShut j w name
shut_elsewhere j w k (way.Atom n) t h (b, e, o) =
    let c = same_places k.pointer b.place in
    let r = inl (refuted_elsewhere w.state k n b h.leads e o) in
    let new = new_by_refuted w.state c j.kinds t.live (record { undecided = undecided w.state.vars k.pointer b.place o.0; room = h.room }) r in
    shut_by j w (way.Atom n) c t.places (h.through.says j n b e new) r
shut_elsewhere j w k way.On t h l = absurd l
shut_elsewhere j w k way.Then t h l = absurd l
shut_elsewhere j w k way.Else t h l = absurd l
shut_elsewhere j w k way.Null t h l = absurd l
shut_elsewhere j w k way.Made t h l = absurd l
shut_elsewhere j w k way.Written t h l = absurd l
shut_elsewhere j w k way.Unwritten t h l = absurd l
shut_elsewhere j w k way.MissingLive t h l = absurd l
shut_elsewhere j w k way.MissingFreed t h l = absurd l
shut_elsewhere j w k way.Missing t h l = absurd l
shut_elsewhere j w k (way.Entry n) t h l = absurd l
shut_elsewhere j w k way.Drop t h l = absurd l
shut_elsewhere j w k way.ByZero t h l = absurd l
shut_elsewhere j w k way.Divided t h l = absurd l

pub known_shut : (j : JobTree) (w : Walk) (o : Option Known) (name : Way) → MayBeThinned j w.state → IfSome o (IsKnown w) → IsSomeAnd o (λ k. LeadsElsewhere w.state k name) → IsShut j w name
known_shut j w None name t h l = absurd l
known_shut j w (Some k) name t h l = shut_elsewhere j w k name t h l

-- ---- the pointer that a command goes through

joined_by : (s : State) (block : TypeId) (at' : Operand) (x : Var) (n : ℕ) (b : Atom) → IsThrough s block at' x → slice_get s.atoms n ≡ Some b → IsNew s (same_places x b.place) → IsJoined s block at' (way.Atom n) (same_places x b.place)
joined_by s block at' x n b t e i = record {
  first = place.Var x;
  second = place.Var b.place;
  first_is = t;
  second_is = ap (option_map (λ (a : Atom). place.Var a.place)) e;
  conjunct_is = refl;
  new = i;
}

pub load_through : (s : State) (k : List Item) (command : Command) (to : ℕ) (from : Operand) (field : FieldId) (block : TypeId) (site : Site) (x : Var) → command ≡ C.Load to from field block site → IsThrough s block from x →
    GoesThrough (at (Act (command_tree command) ∷ k) s) x
load_through s k command to from field block site x e t = record {
  says = λ j n b f i. load_said j s k command to from field block site (way.Atom n) (same_places x b.place) e (joined_by s block from x n b t f i);
}

pub store_through : (s : State) (k : List Item) (command : Command) (to : Operand) (field : FieldId) (block : TypeId) (from : Operand) (site : Site) (x : Var) → command ≡ C.Store to field block from site → IsThrough s block to x →
    GoesThrough (at (Act (command_tree command) ∷ k) s) x
store_through s k command to field block from site x e t = record {
  says = λ j n b f i. store_said j s k command to field block from site (way.Atom n) (same_places x b.place) e (joined_by s block to x n b t f i);
}

pub free_through : (s : State) (k : List Item) (command : Command) (from : Operand) (block : TypeId) (site : Site) (x : Var) → command ≡ C.Free from block site → IsThrough s block from x →
    GoesThrough (at (Act (command_tree command) ∷ k) s) x
free_through s k command from block site x e t = record {
  says = λ j n b f i. free_said j s k command from block site (way.Atom n) (same_places x b.place) e (joined_by s block from x n b t f i);
}

-- where no call is going on
pub next_through : (w : Walk) (next : Upcoming) (command : Bor Command) (rest : List Item) (x : Var) → next ≡ U.Command command → IsNext next w.control rest → is_some w.call ≡ false →
    GoesThrough (at (Act (command_tree command.now) ∷ rest) w.state) x → GoesThrough w x
next_through w next command rest x e n f h =
    let k : w.control ≡ Act (command_tree command.now) ∷ rest = subst (λ z. IsNext z w.control rest) e n in
    subst (λ z. GoesThrough z x) (sym (at_walk w (Act (command_tree command.now) ∷ rest) w.call refl f k)) h
