-- A way that is listed outside a call is taken by its steps.
use Rattle.std.proofs.Common.{◌≡◌, ℕ, suc, ◌+◌, List, [], ◌∷◌, ◌++◌, length, Bool, true, false, nat_eq, Option, Some, None, slice_get, refl, sym, ◌∙◌, ap, subst, arith, append_assoc, length-append, ◌||◌}
use Rattle.std.specs.Prelude.{Contains, ◌&&◌}
use Rattle.std.specs.List.{list_any}
use Rattle.std.proofs.lemmas.Bool.{or_right, or_left}
use Rattle.std.proofs.lemmas.List.Elements.{All-contains}
use Rattle.px_terms.specs.declared.types.TypeId.{TypeId}
use Rattle.px_terms.specs.declared.types.BlockType.{BlockType}
use Rattle.px_terms.specs.declared.conjuncts.Place.{Place as PlaceOf}
use Rattle.px_terms.specs.declared.conjuncts.Content.{Content}
use Rattle.px_terms.specs.declared.conjuncts.Content.TheVariants.{Unwritten, Word, Place, Cell}
use Rattle.px_terms.specs.declared.conjuncts.Place.TheVariants as place
use Rattle.px_terms.specs.declared.conjuncts.Conj.{Conj}
use Rattle.px_terms.specs.declared.conjuncts.Conj.TheVariants.{SamePlace}
use Rattle.px_core.specs.declared.command.Operand.{Operand}
use Rattle.px_core.specs.CommandTree.{CommandTree, assign, unset, read, test, choose, loop, leave, load, store, malloc, free, input, call, return, break, continue, stop, divide}
use Rattle.px_core.specs.Control.{Item, Act, AfterHead, AfterBody, AfterStep, acts, one_turn_more}
use Rattle.px_terms.specs.declared.conjuncts.Conj.TheVariants as conjunct
use Rattle.px_entry.specs.Sorts.{is_long, is_int_polynomial}
use Rattle.px_entry.specs.declared.atoms.Atom.{Atom}
use Rattle.px_entry.specs.declared.derivations.Rule.{Rule}
use Rattle.px_entry.specs.declared.derivations.Rule.TheVariants as rule
use Rattle.px_entry.specs.declared.derivations.Step.{Step}
use Rattle.px_entry.specs.declared.tables.Cause.TheVariants.{Outside}
use Rattle.px_entry.specs.declared.tables.LongKind.{LongKind}
use Rattle.px_entry.specs.Rules.{rule_number}
use Rattle.px_entry.specs.Decided.{is_open}
use Rattle.px_entry.specs.Cases.{is_freed, may_be_at, may_be_missing, numbers_of}
use Rattle.px_entry.proofs.Lists.{Each, each_append, each_all}
use Rattle.px_callgraph.specs.declared.states.State.{State}
use Rattle.px_callgraph.specs.declared.states.Way.{Way}
use Rattle.px_callgraph.specs.declared.states.Way.TheVariants as way
use Rattle.px_callgraph.specs.JobTree.{JobTree}
use Rattle.px_callgraph.specs.Accesses.{listed_if, atom_ways, missing_ways, access_ways, accessed}
use Rattle.px_callgraph.specs.States.{Outcome, goes, ends, past, drops, Done, operand_content, content_at}
use Rattle.px_callgraph.specs.Operations.{condition, contrary}
use Rattle.px_callgraph.specs.Commands.{read_ways, open_if, malloc_ways, divide_ways, through_place, pointer_ways, command_ways, command_done, iteration}
use Rattle.px_callgraph.specs.declared.outcomes.StepOutcome.TheVariants.{Next, Ends, Cut, Past}
use Rattle.px_callgraph.specs.Alternatives.{Walk, Leads, passes, dropped, limited, within_limits, leads, at, items_after, item_ways, after_command, item_act, ways, act, start}
use Rattle.px_callgraph.specs.Derivations.{Course, fails_at, same_way, still_there, take_listed, alone, atom_way, access_way, command_way, item_step, is_silent, live_rule, freed_rule, use_rule, onward, fails_next, by_use, by_item, course}
use Rattle.px_callgraph.proofs.KeepLemmas.{each_weaker, each_atom}
use Rattle.px_walks.specs.declared.control.Upcoming.{Upcoming}
use Rattle.px_walks.specs.Nexts.{items_from, IsNext}
use Rattle.px_explore.specs.Taken.{choices_of, is_freed_atom, is_freed_way, pointer_rule, command_rule, item_rule, a_choice, use_steps, steps_of}
use Rattle.px_explore.specs.Derived.{Reaches, reaches_by, Arrives}
use Rattle.px_walks.proofs.NextLemmas.{is_items}
use Rattle.px_entry.proofs.TestLemmas.{number_itself}

-- ---- calls

abbrev pub is_call_command : CommandTree → Bool
is_call_command (call to proc arguments site) = true
is_call_command _ = false

abbrev pub is_call : List Item → Bool
is_call (Act c ∷ k) = is_call_command c
is_call _ = false

-- what isn't understood stands next
abbrev is_stop_command : CommandTree → Bool
is_stop_command (stop number site) = true
is_stop_command _ = false

abbrev is_stop : List Item → Bool
is_stop (Act c ∷ k) = is_stop_command c
is_stop _ = false

-- ---- by what the code keeps

abbrev by_silence : List Item → List Atom → Way → Bool → List Step
by_silence k atoms name true = []
by_silence k atoms name false = record { rule = item_rule k (is_freed_way atoms name) name; choices = choices_of name } ∷ use_steps k (length atoms) name

steps_are : (k : List Item) (atoms : List Atom) (name : Way) (b : Bool) → is_silent k ≡ b → steps_of k atoms name ≡ by_silence k atoms name b
steps_are k atoms name b e = of (is_silent k) ∙ ap (by_silence k atoms name) e
  where
    of : (b : Bool) →
        elim b as (λ _. List Step) [ true ↦ [] | false ↦ record { rule = item_rule k (is_freed_way atoms name) name; choices = choices_of name } ∷ use_steps k (length atoms) name ] ≡ by_silence k atoms name b
    of true = refl
    of false = refl

module _ (next : Upcoming) (all rest : List Item) (is : IsNext next all rest) (atoms : List Atom) (name : Way) (b : Bool) (known : b ≡ is_silent (items_from next rest)) where
  these : (c : Bool) → b ≡ c → steps_of all atoms name ≡ by_silence (items_from next rest) atoms name c
  these c e = ap (λ k. steps_of k atoms name) (is_items next all rest is) ∙ steps_are (items_from next rest) atoms name c (sym known ∙ e)

  pub put_none : (before : List Step) → b ≡ true → before ≡ before ++ steps_of all atoms name
  put_none before e = sym (ap (λ z. before ++ z) (these true e) ∙ append_nil before)
    where
      append_nil : (xs : List Step) → xs ++ [] ≡ xs
      append_nil [] = refl
      append_nil (x ∷ xs) = ap (λ z. x ∷ z) (append_nil xs)

  pub put_some : (before added after : List Step) (st : Step) (n : ℕ) → b ≡ false → added ≡ before ++ st ∷ [] → st.rule ≡ item_rule (items_from next rest) (is_freed_way atoms name) name →
      st.choices ≡ choices_of name → n ≡ length atoms → after ≡ added ++ use_steps (items_from next rest) n name → after ≡ before ++ steps_of all atoms name
  put_some before added after st n e a r c m u =
      let s : st ≡ record { rule = item_rule (items_from next rest) (is_freed_way atoms name) name; choices = choices_of name } =
      ap (λ (z : Rule). (let x : Step = record { rule = z; choices = st.choices } in x)) r
      ∙ ap (λ (z : List ℕ). (let x : Step = record { rule = item_rule (items_from next rest) (is_freed_way atoms name) name; choices = z } in x)) c in
      u ∙ ap (λ z. z ++ use_steps (items_from next rest) n name) a
      ∙ append_assoc before (st ∷ []) (use_steps (items_from next rest) n name)
      ∙ ap (λ z. before ++ st ∷ use_steps (items_from next rest) z name) m
      ∙ ap (λ z. before ++ z ∷ use_steps (items_from next rest) (length atoms) name) s
      ∙ sym (ap (λ z. before ++ z) (these false e))

-- ---- listed ways are named by their steps

-- the rule of the second step
abbrev use_of : List Item → Way → Option Rule
use_of k way.MissingLive = Some (live_rule k)
use_of k way.MissingFreed = Some (freed_rule k)
use_of k _ = None

pub listed : (P : Way → Type 0) (b : Bool) (w : Way) → P w → Each P (listed_if b w)
listed P true w h = (h, tt)
listed P false w h = tt

abbrev pub Numbered : ℕ → List Atom → ℕ → Type 0
Numbered n atoms m = (i : ℕ) × (a : Atom) × (m ≡ n + i) × (slice_get atoms i ≡ Some a)

later : (n : ℕ) (a : Atom) (rest : List Atom) (m : ℕ) → Numbered (suc n) rest m → Numbered n (a ∷ rest) m
later n a rest m (i, b, e, g) = (suc i, b, omega arith, g)

numbered_by : (n : ℕ) (a : Atom) (rest : List Atom) (b : Bool) (ms : List ℕ) → Each (Numbered n (a ∷ rest)) ms → Each (Numbered n (a ∷ rest)) (elim b as (λ _. List ℕ) [ true ↦ n ∷ ms | false ↦ ms ])
numbered_by n a rest true ms t = ((0, a, omega arith, refl), t)
numbered_by n a rest false ms t = t

pub numbered : (such : ℕ → Atom → Bool) (n : ℕ) (atoms : List Atom) → Each (Numbered n atoms) (numbers_of such n atoms)
numbered such n [] = tt
numbered such n (a ∷ rest) =
    numbered_by n a rest (such n a) (numbers_of such (suc n) rest) (each_weaker (Numbered (suc n) rest) (Numbered n (a ∷ rest)) (later n a rest) (numbers_of such (suc n) rest) (numbered such (suc n) rest))

-- a way is taken by a rule and choices; and by its second step, where there is one
abbrev IsTaken : List Item → Option Way → Option Rule → Way → Type 0
IsTaken k o u name = (o ≡ Some name) × (u ≡ use_of k name)

-- through a pointer
module _ (s : State) (k : List Item) (live freed null : Rule) (by : Rule → List ℕ → Option Way) (of_null : by null [] ≡ Some way.Null) (of_live : by rule.MissingLive [] ≡ Some way.MissingLive)
    (of_freed : by rule.MissingFreed [] ≡ Some way.MissingFreed) (at_live : (n : ℕ) → by live (n ∷ []) ≡ atom_way n false (slice_get s.atoms n))
    (at_freed : (n : ℕ) → by freed (n ∷ []) ≡ atom_way n true (slice_get s.atoms n)) (no_live : use_rule k live ≡ None) (no_freed : use_rule k freed ≡ None) (no_null : use_rule k null ≡ None) where
  abbrev P : Way → Type 0
  P name = IsTaken k (by (pointer_rule live freed null (is_freed_way s.atoms name) name) (choices_of name)) (use_rule k (pointer_rule live freed null (is_freed_way s.atoms name) name)) name

  by_state : (n : ℕ) (a : Atom) (b : Bool) → slice_get s.atoms n ≡ Some a → is_freed a.state ≡ b →
      IsTaken k (by (pointer_rule live freed null b (way.Atom n)) (n ∷ [])) (use_rule k (pointer_rule live freed null b (way.Atom n))) (way.Atom n)
  by_state n a false g e = (at_live n ∙ ap (atom_way n false) g ∙ ap (λ b. elim b as (λ _. Option Way) [ true ↦ None | false ↦ Some (way.Atom n) ]) e, no_live)
  by_state n a true g e = (at_freed n ∙ ap (atom_way n true) g ∙ ap (λ b. elim b as (λ _. Option Way) [ true ↦ Some (way.Atom n) | false ↦ None ]) e, no_freed)

  at_atom : (n : ℕ) → Numbered 0 s.atoms n → P (way.Atom n)
  at_atom n (i, a, e, g) =
      let q : n ≡ i = omega (arith, e) in
      let f : slice_get s.atoms n ≡ Some a = ap (slice_get s.atoms) q ∙ g in
      subst (λ o. IsTaken k (by (pointer_rule live freed null (is_freed_atom o) (way.Atom n)) (n ∷ [])) (use_rule k (pointer_rule live freed null (is_freed_atom o) (way.Atom n))) (way.Atom n)) (sym f)
      (by_state n a (is_freed a.state) f refl)

  missing : (b : Bool) → Each P (missing_ways b)
  missing true = ((of_live, refl), ((of_freed, refl), tt))
  missing false = tt

  accesses : (block : TypeId) (p : PlaceOf) → Each P (access_ways s block p)
  accesses block p =
      let such : ℕ → Atom → Bool = λ n a. nat_eq a.block.0 block.0 && may_be_at s.vars p a in
      let at_null : Bool = is_open s.vars (SamePlace p place.Null) in
      each_append P (listed_if at_null way.Null ++ atom_ways (numbers_of such 0 s.atoms)) (missing_ways (may_be_missing s.vars p))
      (each_append P (listed_if at_null way.Null) (atom_ways (numbers_of such 0 s.atoms)) (listed P at_null way.Null (of_null, no_null))
      (each_atom P (Numbered 0 s.atoms) at_atom (numbers_of such 0 s.atoms) (numbered such 0 s.atoms)))
      (missing (may_be_missing s.vars p))

  pointers : (block : TypeId) (at : Operand) (b : Bool) → Each P (pointer_ways s block at b)
  pointers block at false = tt
  pointers block at true = through (accessed s.vars block (operand_content s at))
    where
      through : (o : Option PlaceOf) → Each P (through_place [] o (access_ways s block))
      through None = tt
      through (Some p) = accesses block p

-- what is silent has one way, and all else is named
abbrev Named : State → List Item → Way → Bool → Option Way → Type 0
Named s k name true o = name ≡ way.On
Named s k name false o = IsTaken k o (use_rule k (item_rule k (is_freed_way s.atoms name) name)) name

module _ (j : JobTree) (s : State) (k : List Item) where
  abbrev C : CommandTree → Way → Type 0
  C c name = Named s (Act c ∷ k) name (is_silent (Act c ∷ k)) (command_way s.atoms c (command_rule c (is_freed_way s.atoms name) name) (choices_of name))

  reads : (slot : ℕ) (site : _) (c : Content) → Each (C (read slot site)) (read_ways s.vars c)
  reads slot site Unwritten = ((refl, refl), tt)
  reads slot site (Word p) = ((refl, refl), tt)
  reads slot site (Place a) = ((refl, refl), tt)
  reads slot site (Cell x) = by _
    where
      by : (b : Bool) → Each (C (read slot site)) (elim b as (λ _. List Way) [ true ↦ way.Written ∷ way.Unwritten ∷ [] | false ↦ [] ])
      by true = ((refl, refl), ((refl, refl), tt))
      by false = tt

  opened : (P : Way → Type 0) (o : Option Conj) (name : Way) → P name → Each P (open_if s.vars o name)
  opened P None name h = tt
  opened P (Some c) name h = listed P _ name h

  mallocs : (to : ℕ) (block : TypeId) (site : _) (o : Option BlockType) → Each (C (malloc to block site)) (malloc_ways o)
  mallocs to block site None = tt
  mallocs to block site (Some b) = ((refl, refl), ((refl, refl), tt))

  divisions : (to : ℕ) (a b : Operand) (site : _) (x y : Content) → Each (C (divide to a b site)) (divide_ways s.vars x y)
  divisions to a b site (Word p) (Word q) =
      let by_zero = is_open s.vars (conjunct.Equal q) in
      let by_other = is_open s.vars (conjunct.Unequal q) && (is_long p || is_int_polynomial s.vars p) in
      each_append (C (divide to a b site)) (listed_if by_zero way.ByZero) (listed_if by_other way.Divided)
      (listed (C (divide to a b site)) by_zero way.ByZero (refl, refl)) (listed (C (divide to a b site)) by_other way.Divided (refl, refl))
  divisions to a b site (Word p) Unwritten = tt
  divisions to a b site (Word p) (Place z) = tt
  divisions to a b site (Word p) (Cell z) = tt
  divisions to a b site Unwritten y = tt
  divisions to a b site (Place z) y = tt
  divisions to a b site (Cell z) y = tt

  command_named : (c : CommandTree) → is_call_command c ≡ false → is_stop_command c ≡ false → Each (C c) (command_ways j s c)
  command_named (assign to op a b) e known = listed (C (assign to op a b)) _ way.On (refl, refl)
  command_named (unset to) e known = ((refl, refl), tt)
  command_named (read slot site) e known = reads slot site (content_at s.slots slot)
  command_named (test to how a b site) e known =
      each_append (C (test to how a b site)) _ _ (opened (C (test to how a b site)) (condition how (operand_content s a) (operand_content s b)) way.Then (refl, refl))
      (opened (C (test to how a b site)) (contrary how (operand_content s a) (operand_content s b)) way.Else (refl, refl))
  command_named (choose slot first second) e known = listed (C (choose slot first second)) _ way.On (refl, refl)
  command_named (loop site head body step) e known = (refl, tt)
  command_named leave e known = listed (C leave) _ way.On (refl, refl)
  command_named (load to at' field block site) e known =
      pointers s (Act (load to at' field block site) ∷ k) rule.Load rule.FreedAccess rule.NullAccess (access_way rule.Load s.atoms) refl refl refl (λ n. refl) (λ n. refl) refl refl refl block at' _
  command_named (store at' field block from site) e known =
      pointers s (Act (store at' field block from site) ∷ k) rule.Store rule.FreedAccess rule.NullAccess (access_way rule.Store s.atoms) refl refl refl (λ n. refl) (λ n. refl) refl refl refl block at' _
  command_named (malloc to block site) e known = mallocs to block site _
  command_named (free at' block site) e known =
      pointers s (Act (free at' block site) ∷ k) rule.Free rule.FreeTwice rule.FreeNull (command_way s.atoms (free at' block site)) refl refl refl (λ n. refl) (λ n. refl) refl refl refl block at' _
  command_named (input to site) e known = ((refl, refl), tt)
  command_named (call to proc arguments site) e known = cc
  command_named (return from) e known = listed (C (return from)) _ way.On refl
  command_named break e known = listed (C break) _ way.On (refl, refl)
  command_named continue e known = listed (C continue) _ way.On (refl, refl)
  command_named (stop number site) e known = cc
  command_named (divide to a b site) e known = divisions to a b site (operand_content s a) (operand_content s b)

-- ---- the way of a step

abbrev named_way : List Atom → List Item → Rule → List ℕ → Option Way
named_way atoms [] r cs = None
named_way atoms (Act c ∷ k) r cs = command_way atoms c r cs
named_way atoms (AfterHead l ∷ k) rule.Unroll cs = alone cs way.On
named_way atoms (AfterHead l ∷ k) _ cs = None
named_way atoms (AfterBody l ∷ k) r cs = None
named_way atoms (AfterStep l ∷ k) r cs = None

abbrev by_name : JobTree → Walk → Option Way → Option Leads
by_name j w None = None
by_name j w (Some name) = take_listed j w name

named_step : (j : JobTree) (w : Walk) (k : List Item) (r : Rule) (cs : List ℕ) → is_call k ≡ false → item_step j w k r cs ≡ by_name j w (named_way w.state.atoms k r cs)
named_step j w [] r cs e = refl
named_step j w (Act (assign to op a b) ∷ k) r cs e = refl
named_step j w (Act (unset to) ∷ k) r cs e = refl
named_step j w (Act (read slot site) ∷ k) r cs e = refl
named_step j w (Act (test to how a b site) ∷ k) r cs e = refl
named_step j w (Act (choose slot first second) ∷ k) r cs e = refl
named_step j w (Act (loop site head body step) ∷ k) r cs e = refl
named_step j w (Act leave ∷ k) r cs e = refl
named_step j w (Act (load to at' field block site) ∷ k) r cs e = refl
named_step j w (Act (store at' field block from site) ∷ k) r cs e = refl
named_step j w (Act (malloc to block site) ∷ k) r cs e = refl
named_step j w (Act (free at' block site) ∷ k) r cs e = refl
named_step j w (Act (input to site) ∷ k) r cs e = refl
named_step j w (Act (call to proc arguments site) ∷ k) r cs e = cc
named_step j w (Act (return from) ∷ k) r cs e = refl
named_step j w (Act break ∷ k) r cs e = refl
named_step j w (Act continue ∷ k) r cs e = refl
named_step j w (Act (stop word site) ∷ k) r cs e = refl
named_step j w (Act (divide to a b site) ∷ k) r cs e = refl
named_step j w (AfterHead l ∷ k) rule.Unroll cs e = refl
named_step j w (AfterHead l ∷ k) _ cs e = refl
named_step j w (AfterBody l ∷ k) r cs e = refl
named_step j w (AfterStep l ∷ k) r cs e = refl

abbrev I : State → List Item → Way → Type 0
I s k name = Named s k name (is_silent k) (named_way s.atoms k (item_rule k (is_freed_way s.atoms name) name) (choices_of name))

item_named : (j : JobTree) (s : State) (k : List Item) → is_call k ≡ false → is_stop k ≡ false → Each (I s k) (item_ways j s k)
item_named j s [] e known = (refl, tt)
item_named j s (Act c ∷ k) e known = by (items_after s c k)
  where
    by : (o : Option (List Item)) → Each (I s (Act c ∷ k)) (elim o as (λ _. List Way) [ None ↦ [] | Some k' ↦ command_ways j s c ])
    by None = tt
    by (Some k') = command_named j s k c e known
item_named j s (AfterHead l ∷ k) e known = ((refl, refl), tt)
item_named j s (AfterBody l ∷ k) e known = (refl, tt)
item_named j s (AfterStep l ∷ k) e known = (refl, tt)

ways_named : (j : JobTree) (s : State) (k : List Item) (name : Way) → is_call k ≡ false → is_stop k ≡ false → Contains (ways j (at k s)) name → I s k name
unfolding ways
ways_named j s k name e known i = All-contains (I s k) (item_ways j s k) name (each_all (I s k) (item_ways j s k) (item_named j s k e known)) i

-- ---- a listed way is found

same_itself : (w : Way) → same_way w w ≡ true
same_itself way.On = refl
same_itself way.Then = refl
same_itself way.Else = refl
same_itself way.Null = refl
same_itself way.Made = refl
same_itself way.Written = refl
same_itself way.Unwritten = refl
same_itself (way.Atom n) = number_itself n
same_itself way.MissingLive = refl
same_itself way.MissingFreed = refl
same_itself way.Missing = refl
same_itself (way.Entry n) = number_itself n
same_itself way.Drop = refl
same_itself way.ByZero = refl
same_itself way.Divided = refl

each_found : (xs : List Way) → Each (λ x. list_any (same_way x) xs ≡ true) xs
each_found [] = tt
each_found (x ∷ xs) = (
  or_left (same_way x x) (list_any (same_way x) xs) (same_itself x),
  each_weaker (λ y. list_any (same_way y) xs ≡ true) (λ y. list_any (same_way y) (x ∷ xs) ≡ true) (λ y h. or_right (same_way y x) (list_any (same_way y) xs) h) xs (each_found xs),
)

pub found : (xs : List Way) (x : Way) → Contains xs x → list_any (same_way x) xs ≡ true
found xs x i = All-contains (λ x. list_any (same_way x) xs ≡ true) xs x (each_all _ xs (each_found xs)) i

pub taken_there : (j : JobTree) (w : Walk) (name : Way) (a : Leads) → Contains (ways j w) name → act j w name ≡ a → still_there a ≡ Some a → take_listed j w name ≡ Some a
taken_there j w name a i e t =
    ap (λ b. elim b as (λ _. Option Leads) [ true ↦ still_there (act j w name) | false ↦ None ]) (found (ways j w) name i) ∙ ap still_there e ∙ t

-- ---- the course of the steps

used_by : (go : ℕ → List Step → Leads → Course) (i n : ℕ) (r : Rule) (rest : List Step) (a : Leads) → by_use go i (a_choice r n ∷ rest) n (Some r) a ≡ go (suc i) rest a
used_by go i n r rest a =
    ap (λ b. elim (b && (nat_eq n n && true)) as (λ _. Course) [ true ↦ go (suc i) rest a | false ↦ fails_at i r ]) (number_itself (rule_number r))
    ∙ ap (λ b. elim (true && (b && true)) as (λ _. Course) [ true ↦ go (suc i) rest a | false ↦ fails_at i r ]) (number_itself n)

none_used : (go : ℕ → List Step → Leads → Course) (i : ℕ) (rest : List Step) (a : Leads) → go i rest a ≡ go (0 + i) rest a
none_used go i rest a = let z : i ≡ 0 + i = omega arith in ap (λ m. go m rest a) z

one_used : (go : ℕ → List Step → Leads → Course) (i : ℕ) (rest : List Step) (a : Leads) → go (suc i) rest a ≡ go (1 + i) rest a
one_used go i rest a = let z : suc i ≡ 1 + i = omega arith in ap (λ m. go m rest a) z

use_taken : (go : ℕ → List Step → Leads → Course) (i n : ℕ) (k : List Item) (name : Way) (rest : List Step) (a : Leads) →
    by_use go i (use_steps k n name ++ rest) n (use_of k name) a ≡ go (length (use_steps k n name) + i) rest a
use_taken go i n k way.On rest a = none_used go i rest a
use_taken go i n k way.Then rest a = none_used go i rest a
use_taken go i n k way.Else rest a = none_used go i rest a
use_taken go i n k way.Null rest a = none_used go i rest a
use_taken go i n k way.Made rest a = none_used go i rest a
use_taken go i n k way.Written rest a = none_used go i rest a
use_taken go i n k way.Unwritten rest a = none_used go i rest a
use_taken go i n k (way.Atom m) rest a = none_used go i rest a
use_taken go i n k way.MissingLive rest a = used_by go i n (live_rule k) rest a ∙ one_used go i rest a
use_taken go i n k way.MissingFreed rest a = used_by go i n (freed_rule k) rest a ∙ one_used go i rest a
use_taken go i n k way.Missing rest a = none_used go i rest a
use_taken go i n k (way.Entry m) rest a = none_used go i rest a
use_taken go i n k way.Drop rest a = none_used go i rest a
use_taken go i n k way.ByZero rest a = none_used go i rest a
use_taken go i n k way.Divided rest a = none_used go i rest a

module _ (j : JobTree) (s : State) (k : List Item) (name : Way) (a : Leads) (plain : is_call k ≡ false) (t : take_listed j (at k s) name ≡ Some a) where
  by_taken : (go : ℕ → List Step → Leads → Course) (i : ℕ) (rest : List Step) (b : Bool) →
      Named s k name b (named_way s.atoms k (item_rule k (is_freed_way s.atoms name) name) (choices_of name)) →
      by_item j go i (by_silence k s.atoms name b ++ rest) (at k s) b ≡ go (length (by_silence k s.atoms name b) + i) rest a
  by_taken go i rest true h = ap (onward (fails_next i rest) (go i rest)) (ap (take_listed j (at k s)) (sym h) ∙ t) ∙ none_used go i rest a
  by_taken go i rest false h =
      let r = item_rule k (is_freed_way s.atoms name) name in
      let z : length (use_steps k (length s.atoms) name) + suc i ≡ suc (length (use_steps k (length s.atoms) name)) + i = omega arith in
      ap (onward (fails_at i r) (by_use go (suc i) (use_steps k (length s.atoms) name ++ rest) (length s.atoms) (use_rule k r))) (named_step j (at k s) k r (choices_of name) plain ∙ ap (by_name j (at k s)) h.0 ∙ t)
      ∙ ap (λ u. by_use go (suc i) (use_steps k (length s.atoms) name ++ rest) (length s.atoms) u a) h.1
      ∙ use_taken go (suc i) (length s.atoms) k name rest a
      ∙ ap (λ m. go m rest a) z

  course_taken : (n i : ℕ) (rest : List Step) → I s k name → course (suc n) j i (steps_of k s.atoms name ++ rest) (Next (at k s)) ≡ course n j (length (steps_of k s.atoms name) + i) rest a
  course_taken n i rest h =
      subst (λ z. by_item j (course n j) i (z ++ rest) (at k s) (is_silent k) ≡ course n j (length z + i) rest a) (sym (steps_are k s.atoms name (is_silent k) refl))
      (by_taken (course n j) i rest (is_silent k) h)

  reached : (steps : List Step) → I s k name → Reaches j steps (Next (at k s)) → Reaches j (steps ++ steps_of k s.atoms name) a
  reached steps i h =
      let added = steps_of k s.atoms name in
      let l : length added + length steps ≡ length (steps ++ added) = omega (arith, length-append steps added) in record {
        course_is = λ rest n. let r = h.course_is (added ++ rest) (suc n) in (
          r.0,
          ap (λ z. course r.0 j 0 z (Next (start j))) (append_assoc steps added rest) ∙ r.1 ∙ course_taken n (length steps) rest i ∙ ap (λ m. course n j m rest a) l,
        );
      }

-- ---- no call is going on after it

abbrev pub HasNoCall : Leads → Type 0
HasNoCall (Next w) = w.call ≡ None
HasNoCall (Ends s exit result) = Unit {0}
HasNoCall (Cut s gap) = Unit {0}
HasNoCall (Past s) = Unit {0}

limited_plain : (s : State) (a : Leads) (o : Option LongKind) → HasNoCall a → HasNoCall (limited s a o)
limited_plain s a None h = h
limited_plain s a (Some kind) h = tt

within_plain : (s : State) (d : Done) (go : State → Walk) → ((t : State) → (go t).call ≡ None) → (o : Outcome) → HasNoCall (within_limits s d go o)
within_plain s d go h goes = limited_plain s (Next (go d.state)) (passes d) (h d.state)
within_plain s d go h (ends exit result) = limited_plain s (Ends d.state exit result) (passes d) tt
within_plain s d go h past = tt
within_plain s d go h (drops word) = limited_plain s (dropped s (Outside word)) (passes d) tt

pub leads_plain : (s : State) (d : Done) (go : State → Walk) → ((t : State) → (go t).call ≡ None) → HasNoCall (leads s d go)
leads_plain s d go h = within_plain s d go h d.outcome

after_plain : (s : State) (c : CommandTree) (k : List Item) (t : State) → is_call_command c ≡ false → (after_command s c k t).call ≡ None
after_plain s (assign to op a b) k t e = refl
after_plain s (unset to) k t e = refl
after_plain s (read slot site) k t e = refl
after_plain s (test to how a b site) k t e = refl
after_plain s (choose slot first second) k t e = refl
after_plain s (loop site head body step) k t e = refl
after_plain s leave k t e = refl
after_plain s (load to at' field block site) k t e = refl
after_plain s (store at' field block from site) k t e = refl
after_plain s (malloc to block site) k t e = refl
after_plain s (free at' block site) k t e = refl
after_plain s (input to site) k t e = refl
after_plain s (call to proc arguments site) k t e = cc
after_plain s (return from) k t e = refl
after_plain s break k t e = refl
after_plain s continue k t e = refl
after_plain s (stop word site) k t e = refl
after_plain s (divide to a b site) k t e = refl

item_goes_plain : (j : JobTree) (s : State) (k : List Item) (name : Way) → is_call k ≡ false → HasNoCall (item_act j s k name)
item_goes_plain j s [] name e = tt
item_goes_plain j s (Act c ∷ k) name e = by (items_after s c k)
  where
    by : (o : Option (List Item)) → HasNoCall (elim o as (λ _. Leads) [ None ↦ Past s | Some k' ↦ leads s (command_done j c name s) (after_command s c k') ])
    by None = tt
    by (Some k') = leads_plain s (command_done j c name s) (after_command s c k') (λ t. after_plain s c k' t e)
item_goes_plain j s (AfterHead l ∷ k) name e =
    leads_plain s (iteration j.limits.unroll l.site l.made s) (at (acts l.body (AfterBody (one_turn_more l) ∷ k))) (λ t. refl)
item_goes_plain j s (AfterBody l ∷ k) name e = refl
item_goes_plain j s (AfterStep l ∷ k) name e = refl

act_plain : (j : JobTree) (s : State) (k : List Item) (name : Way) → is_call k ≡ false → HasNoCall (act j (at k s) name)
unfolding act
act_plain j s k name e = item_goes_plain j s k name e

-- ---- what isn't understood is dropped

abbrev IsCut : Leads → Type 0
IsCut (Next w) = ⊥
IsCut (Ends t exit result) = ⊥
IsCut (Cut t gap) = Unit {0}
IsCut (Past t) = ⊥

limited_cut : (s : State) (a : Leads) (o : Option LongKind) → IsCut a → IsCut (limited s a o)
limited_cut s a None h = h
limited_cut s a (Some kind) h = tt

stop_is_cut : (j : JobTree) (s : State) (k : List Item) (name : Way) → is_stop k ≡ true → IsCut (act j (at k s) name)
unfolding act
stop_is_cut j s [] name e = cc
stop_is_cut j s (Act (assign to op a b) ∷ k) name e = cc
stop_is_cut j s (Act (unset to) ∷ k) name e = cc
stop_is_cut j s (Act (read slot site) ∷ k) name e = cc
stop_is_cut j s (Act (test to how a b site) ∷ k) name e = cc
stop_is_cut j s (Act (choose slot first second) ∷ k) name e = cc
stop_is_cut j s (Act (loop site head body step) ∷ k) name e = cc
stop_is_cut j s (Act leave ∷ k) name e = cc
stop_is_cut j s (Act (load to at' field block site) ∷ k) name e = cc
stop_is_cut j s (Act (store at' field block from site) ∷ k) name e = cc
stop_is_cut j s (Act (malloc to block site) ∷ k) name e = cc
stop_is_cut j s (Act (free at' block site) ∷ k) name e = cc
stop_is_cut j s (Act (input to site) ∷ k) name e = cc
stop_is_cut j s (Act (call to proc arguments site) ∷ k) name e = cc
stop_is_cut j s (Act (return from) ∷ k) name e = cc
stop_is_cut j s (Act break ∷ k) name e = cc
stop_is_cut j s (Act continue ∷ k) name e = cc
stop_is_cut j s (Act (stop number site) ∷ k) name e = limited_cut s (dropped s (Outside number)) (passes (command_done j (stop number site) name s)) tt
stop_is_cut j s (Act (divide to a b site) ∷ k) name e = cc
stop_is_cut j s (AfterHead l ∷ k) name e = cc
stop_is_cut j s (AfterBody l ∷ k) name e = cc
stop_is_cut j s (AfterStep l ∷ k) name e = cc

cut_arrives : (j : JobTree) (steps : List Step) (a : Leads) → IsCut a → Arrives j steps a
cut_arrives j steps (Next w) h = absurd h
cut_arrives j steps (Ends t exit result) h = absurd h
cut_arrives j steps (Cut t gap) h = tt
cut_arrives j steps (Past t) h = tt

module _ (j : JobTree) (s : State) (k : List Item) (name : Way) (steps : List Step) (plain : is_call k ≡ false) (i : Contains (ways j (at k s)) name) (h : Reaches j steps (Next (at k s))) where
  module _ (known : is_stop k ≡ false) where
    goes_to : (a : Leads) → act j (at k s) name ≡ a → still_there a ≡ Some a → Reaches j (steps ++ steps_of k s.atoms name) a
    goes_to a e t = reached j s k name a plain (taken_there j (at k s) name a i e t) steps (ways_named j s k name plain known i) h

    named_arrives : (a : Leads) → act j (at k s) name ≡ a → Arrives j (steps ++ steps_of k s.atoms name) a
    named_arrives (Next w) e = subst (reaches_by j (steps ++ steps_of k s.atoms name) w) (sym (subst HasNoCall e (act_plain j s k name plain))) (goes_to (Next w) e refl)
    named_arrives (Ends t exit result) e = goes_to (Ends t exit result) e refl
    named_arrives (Cut t gap) e = tt
    named_arrives (Past t) e = tt

  pub arrives : (a : Leads) → act j (at k s) name ≡ a → Arrives j (steps ++ steps_of k s.atoms name) a
  arrives a e = by (is_stop k) refl
    where
      by : (b : Bool) → is_stop k ≡ b → Arrives j (steps ++ steps_of k s.atoms name) a
      by true stops = cut_arrives j (steps ++ steps_of k s.atoms name) a (subst IsCut e (stop_is_cut j s k name stops))
      by false known = named_arrives known a e
