-- What is known of a reply, part by part.
use Rattle.std.proofs.Common.{◌≡◌, ◌≢◌, inl, inr, ℕ, zero, suc, ◌+◌, ◌<◌, List, [], ◌∷◌, ◌++◌, length, map, Option, Some, None, Result, Ok, Err, refl, sym, ap, subst, ◌∙◌, append_assoc, append-nil, arith}
use Rattle.std.specs.Prelude.{IfOk, OnOk, IfNone}
use Rattle.std.proofs.lemmas.List.{length-append, map_push, length-map}
use Rattle.px_entry.specs.declared.derivations.Derivation.{Derivation}
use Rattle.px_entry.specs.declared.entries.Entry.{Entry}
use Rattle.px_entry.specs.declared.tables.Gap.{Gap}
use Rattle.px_entry.specs.declared.tables.Table.{Table}
use Rattle.px_callgraph.specs.JobTree.{JobTree}
use Rattle.px_callgraph.specs.Derivations.{Derives}
use Rattle.px_check.specs.declared.checked.Checked.{Checked}
use Rattle.px_check.specs.Answers.{entry_of, job_of}
use Rattle.px_wire.specs.Messages.{MessageTree, reply, large}
use Rattle.px_wire.specs.Versions.{SpellsIn}
use Rattle.px_wire.proofs.MessageRoundTrips.{one_told}
use Rattle.px_parts.specs.declared.part.Part.{Part}
use Rattle.px_parts.specs.declared.part.Part.TheVariants as P
use Rattle.px_parts.specs.Parts.{parts_of, IsReplying}
use Rattle.px_pieces.specs.declared.desk.Lost.{Lost}
use Rattle.px_pieces.specs.declared.desk.Lost.TheVariants.{Frame, Ticket, Kinds, Refused, Large, NoMemory}
use Rattle.px_pieces.specs.Pieces.{AreOf, table_from}
use Rattle.px_pool.specs.declared.judging.Refusal.{Refusal}
use Rattle.px_pool.specs.declared.gathering.Gathering.{Gathering}
use Rattle.px_pool.specs.declared.gathering.Standing.{Standing}
use Rattle.px_pool.specs.declared.gathering.Standing.TheVariants as S
use Rattle.px_pool.specs.Derived.{AreDerived, FailsAt, FirstFails}
use Rattle.px_pool.specs.Checks.{AreChecked, IsRefusal}
use Rattle.px_pool.specs.Outcomes.{NamesTicket, GivesTable, IsFaultIn}
use Rattle.px_pool.specs.Gathering.{entry_in, entries_in, drop_in, drops_in, derivation_in, derivations_in, AreJudged, JudgesNext, IsGathered, IsOpen, IsLostBy, IsGatheredOn, IsStanding, Tells}
use Rattle.px_pool.proofs.PartLists.{entries_more, drops_more, derivations_more, table_of, entries_before, more_derivations, sort_of, of_head, of_large, of_no_other, of_nothing}

-- none, where it isn't one
pub none_is : {A : Type 0} (o : Option A) (P : Type 0) → ((x : A) → o ≡ Some x → ⊥) → IfNone o P → P
none_is (Some x) P other h = absurd (other x refl)
none_is None P other h = h

-- ---- the version

-- a message, in the version that was asked for
as_asked : (v own : ℕ) (bytes : List ℕ) (m n : MessageTree) → own ≡ v → m ≡ n → SpellsIn own bytes m → SpellsIn v bytes n
as_asked v own bytes m n same is spells = subst (λ z. SpellsIn v bytes z) is (subst (λ w. SpellsIn w bytes m) same spells)

-- a message in another names no ticket
other_version : (v own : ℕ) (bytes : List ℕ) (m : MessageTree) → own ≢ v → SpellsIn own bytes m → (ticket : ℕ) → ¬ NamesTicket v bytes ticket
other_version v own bytes m other spells ticket (inl (kinds, t, ds, s)) = other (one_told bytes own v m (reply ticket kinds t ds) spells s).0
other_version v own bytes m other spells ticket (inr s) = other (one_told bytes own v m (large ticket) spells s).0

-- ---- the first part

module _ (j : JobTree) where
  pub other_ticket : (v ticket : ℕ) (kinds : List ℕ) → ticket ≢ j.ticket → IsLostBy v j (P.Head v ticket kinds ∷ []) (Ticket j.ticket ticket)
  other_ticket v ticket kinds other bytes own m others spells replying is =
      let h = of_head own m v ticket kinds others replying is in
      (refl, other, inl (kinds, h.0, h.1, as_asked v own bytes m (reply ticket kinds h.0 h.1) h.4 h.2 spells))

  pub other_kinds : (v ticket : ℕ) (kinds : List ℕ) → ticket ≡ j.ticket → kinds ≢ j.kinds → IsLostBy v j (P.Head v ticket kinds ∷ []) Kinds
  other_kinds v ticket kinds same other bytes own m others spells replying is =
      let h = of_head own m v ticket kinds others replying is in
      (kinds, h.0, h.1, subst (λ n. SpellsIn v bytes (reply n kinds h.0 h.1)) same (as_asked v own bytes m (reply ticket kinds h.0 h.1) h.4 h.2 spells), other)

  pub large_of_other : (v ticket : ℕ) → ticket ≢ j.ticket → IsLostBy v j (P.Large v ticket ∷ []) (Ticket j.ticket ticket)
  large_of_other v ticket other bytes own m others spells replying is =
      let h = of_large own m v ticket others replying is in (refl, other, inr (as_asked v own bytes m (large ticket) h.1 h.0 spells))

  pub too_large : (v ticket : ℕ) → ticket ≡ j.ticket → IsLostBy v j (P.Large v ticket ∷ []) Large
  too_large v ticket same bytes own m others spells replying is =
      let h = of_large own m v ticket others replying is in
      subst (λ n. SpellsIn v bytes (large n)) same (as_asked v own bytes m (large ticket) h.1 h.0 spells)

  pub no_first : (v : ℕ) (x : Part) → sort_of x ≡ 0 → IsLostBy v j (x ∷ []) Frame
  no_first v x other bytes own m others spells replying is = absurd (of_no_other own m x others other replying is)

  -- a reply in another version
  pub other_head : (v : ℕ) (x : Part) (number ticket : ℕ) (kinds : List ℕ) → x ≡ P.Head number ticket kinds → number ≢ v → IsLostBy v j (x ∷ []) Frame
  other_head v x number ticket kinds first other bytes own m others spells replying is =
      let h = of_head own m number ticket kinds others replying (is ∙ ap (λ y. y ∷ others) first) in
      other_version v own bytes m (λ same. other (sym h.4 ∙ same)) spells

  pub other_large : (v : ℕ) (x : Part) (number ticket : ℕ) → x ≡ P.Large number ticket → number ≢ v → IsLostBy v j (x ∷ []) Frame
  other_large v x number ticket first other bytes own m others spells replying is =
      let h = of_large own m number ticket others replying (is ∙ ap (λ y. y ∷ others) first) in
      other_version v own bytes m (λ same. other (sym h.1 ∙ same)) spells

  pub opens : (v ticket : ℕ) (kinds : List ℕ) (g : Gathering) → ticket ≡ j.ticket → kinds ≡ j.kinds → IsGathered j [] [] [] g → IsOpen v j (P.Head v ticket kinds ∷ []) g
  opens v ticket kinds g same_ticket same_kinds gathered =
      ([], ap (λ n. P.Head v n kinds ∷ []) same_ticket ∙ ap (λ l. P.Head v j.ticket l ∷ []) same_kinds, gathered)

  nothing_checked : AreChecked j [] [] []
  nothing_checked = record { entries = refl; jobs = tt; derived = refl }

  pub nothing_gathered : (g : Gathering) → g.pending.items ≡ [] → g.checked ≡ [] → g.drops ≡ [] → g.refused ≡ None → IsGathered j [] [] [] g
  nothing_gathered g none_pending none_checked none_dropped none_refused =
      (none_dropped, [], sym none_pending, subst (λ o. AreJudged j [] [] g.checked o) (sym none_refused) (subst (λ l. AreChecked j [] [] l) (sym none_checked) nothing_checked))

  pub head_first : (v : ℕ) (x : Part) (number ticket : ℕ) (kinds : List ℕ) (s : Standing) → x ≡ P.Head number ticket kinds → number ≡ v → ((n : ℕ) → IsStanding n j (P.Head n ticket kinds ∷ []) s) →
      IsStanding v j (x ∷ []) s
  head_first v x number ticket kinds s is same h = subst (λ y. IsStanding v j (y ∷ []) s) (sym (is ∙ ap (λ n. P.Head n ticket kinds) same)) (h v)

  pub large_first : (v : ℕ) (x : Part) (number ticket : ℕ) (s : Standing) → x ≡ P.Large number ticket → number ≡ v → ((n : ℕ) → IsStanding n j (P.Large n ticket ∷ []) s) → IsStanding v j (x ∷ []) s
  large_first v x number ticket s is same h = subst (λ y. IsStanding v j (y ∷ []) s) (sym (is ∙ ap (λ n. P.Large n ticket) same)) (h v)

  pub other_first : (v : ℕ) (x : Part) → ((number ticket : ℕ) (kinds : List ℕ) → x ≡ P.Head number ticket kinds → ⊥) → ((number ticket : ℕ) → x ≡ P.Large number ticket → ⊥) → IsLostBy v j (x ∷ []) Frame
  other_first v P.Held no_head no_large = no_first v P.Held refl
  other_first v (P.Head number ticket kinds) no_head no_large = absurd (no_head number ticket kinds refl)
  other_first v (P.Entry e) no_head no_large = no_first v (P.Entry e) refl
  other_first v (P.Drop g) no_head no_large = no_first v (P.Drop g) refl
  other_first v (P.Derivation d) no_head no_large = no_first v (P.Derivation d) refl
  other_first v (P.Large number ticket) no_head no_large = absurd (no_large number ticket refl)
  other_first v P.End no_head no_large = no_first v P.End refl

  -- ---- one part more

  lost_still : (v : ℕ) (parts : List Part) (x : Part) (why : Lost) → IsLostBy v j parts why → IsLostBy v j (parts ++ x ∷ []) why
  lost_still v parts x why lost bytes own m others spells replying is = lost bytes own m (x ∷ others) spells replying (is ∙ append_assoc parts (x ∷ []) others)

  pub out_of_memory : (v : ℕ) (parts : List Part) → IsLostBy v j parts NoMemory
  out_of_memory v parts bytes own m others spells replying is = tt

  pub open_still : (v : ℕ) (parts : List Part) (x : Part) (g h : Gathering) →
      ((es : List Entry) (gs : List Gap) (ds : List Derivation) → IsGathered j es gs ds g → IsGathered j (es ++ entry_in x) (gs ++ drop_in x) (ds ++ derivation_in x) h) →
      IsOpen v j parts g → IsOpen v j (parts ++ x ∷ []) h
  open_still v parts x g h keeps (tail, is, gathered) =
      let e = entries_more tail x in
      let d = drops_more tail x in
      let s = derivations_more tail x in
      let first = keeps (entries_in tail) (drops_in tail) (derivations_in tail) gathered in
      let second = subst (λ l. IsGathered j l (drops_in tail ++ drop_in x) (derivations_in tail ++ derivation_in x) h) (sym e) first in
      let third = subst (λ l. IsGathered j (entries_in (tail ++ x ∷ [])) l (derivations_in tail ++ derivation_in x) h) (sym d) second in
      let fourth = subst (λ l. IsGathered j (entries_in (tail ++ x ∷ [])) (drops_in (tail ++ x ∷ [])) l h) (sym s) third in
      (tail ++ x ∷ [], ap (λ l. l ++ x ∷ []) is, fourth)

  pub begun : (v : ℕ) (parts : List Part) (x : Part) (s next : Standing) → s ≡ S.Unbegun → IsStanding v j parts s → IsStanding v j (x ∷ []) next → IsStanding v j (parts ++ x ∷ []) next
  begun v parts x s next is standing first =
      let none : parts ≡ [] = subst (λ z. IsStanding v j parts z) is standing in
      subst (λ l. IsStanding v j (l ++ x ∷ []) next) (sym none) first

  pub goes_on : (v : ℕ) (parts : List Part) (x : Part) (s next : Standing) (g : Gathering) → s ≡ S.Open g → IsStanding v j parts s →
      ((l : List Part) → IsOpen v j l g → IsStanding v j (l ++ x ∷ []) next) → IsStanding v j (parts ++ x ∷ []) next
  goes_on v parts x s next g is standing gathers = gathers parts (subst (λ z. IsStanding v j parts z) is standing)

  pub lost_on : (v : ℕ) (parts : List Part) (x : Part) (s : Standing) (why : Lost) → s ≡ S.Lost why → IsStanding v j parts s → IsLostBy v j (parts ++ x ∷ []) why
  lost_on v parts x s why is standing = lost_still v parts x why (subst (λ z. IsStanding v j parts z) is standing)

  -- where nothing is an entry, a drop or a derivation
  gathered_still : (es : List Entry) (gs : List Gap) (ds : List Derivation) (g : Gathering) → IsGathered j es gs ds g → IsGathered j (es ++ []) (gs ++ []) (ds ++ []) g
  gathered_still es gs ds g gathered =
      subst (λ l. IsGathered j l (gs ++ []) (ds ++ []) g) (sym (append-nil es)) (subst (λ l. IsGathered j es l (ds ++ []) g) (sym (append-nil gs)) (subst (λ l. IsGathered j es gs l g) (sym (append-nil ds)) gathered))

  pub passes_over : (x : Part) (g : Gathering) → ((e : Entry) → x ≡ P.Entry e → ⊥) → ((gap : Gap) → x ≡ P.Drop gap → ⊥) → ((d : Derivation) → x ≡ P.Derivation d → ⊥) → IsGatheredOn j g x (Ok g)
  passes_over P.Held g no_entry no_drop no_derivation es gs ds h = gathered_still es gs ds g h
  passes_over (P.Head number ticket kinds) g no_entry no_drop no_derivation es gs ds h = gathered_still es gs ds g h
  passes_over (P.Entry e) g no_entry no_drop no_derivation es gs ds h = absurd (no_entry e refl)
  passes_over (P.Drop gap) g no_entry no_drop no_derivation es gs ds h = absurd (no_drop gap refl)
  passes_over (P.Derivation d) g no_entry no_drop no_derivation es gs ds h = absurd (no_derivation d refl)
  passes_over (P.Large number ticket) g no_entry no_drop no_derivation es gs ds h = gathered_still es gs ds g h
  passes_over P.End g no_entry no_drop no_derivation es gs ds h = gathered_still es gs ds g h

  pub gathered_entry : (es : List Entry) (gs : List Gap) (ds : List Derivation) (e : Entry) (g h : Gathering) → h.pending.items ≡ g.pending.items ++ e ∷ [] → h.checked ≡ g.checked →
      h.drops ≡ g.drops → h.refused ≡ g.refused → IsGathered j es gs ds g → IsGathered j (es ++ e ∷ []) (gs ++ []) (ds ++ []) h
  gathered_entry es gs ds e g h pending checked drops refused (dropped, done, are, judged) =
      let here : IsGathered j (es ++ e ∷ []) gs ds h = (
        drops ∙ dropped,
        done,
        ap (λ l. l ++ e ∷ []) are ∙ append_assoc done g.pending.items (e ∷ []) ∙ ap (λ l. done ++ l) (sym pending),
        subst (λ o. AreJudged j done ds h.checked o) (sym refused) (subst (λ l. AreJudged j done ds l g.refused) (sym checked) judged),
      ) in
      subst (λ l. IsGathered j (es ++ e ∷ []) l (ds ++ []) h) (sym (append-nil gs)) (subst (λ l. IsGathered j (es ++ e ∷ []) gs l h) (sym (append-nil ds)) here)

  pub gathered_drop : (es : List Entry) (gs : List Gap) (ds : List Derivation) (x : Gap) (g h : Gathering) → h.pending.items ≡ g.pending.items → h.checked ≡ g.checked →
      h.drops ≡ g.drops ++ x ∷ [] → h.refused ≡ g.refused → IsGathered j es gs ds g → IsGathered j (es ++ []) (gs ++ x ∷ []) (ds ++ []) h
  gathered_drop es gs ds x g h pending checked drops refused (dropped, done, are, judged) =
      let here : IsGathered j es (gs ++ x ∷ []) ds h = (
        drops ∙ ap (λ l. l ++ x ∷ []) dropped,
        done,
        are ∙ ap (λ l. done ++ l) (sym pending),
        subst (λ o. AreJudged j done ds h.checked o) (sym refused) (subst (λ l. AreJudged j done ds l g.refused) (sym checked) judged),
      ) in
      subst (λ l. IsGathered j l (gs ++ x ∷ []) (ds ++ []) h) (sym (append-nil es)) (subst (λ l. IsGathered j es (gs ++ x ∷ []) l h) (sym (append-nil ds)) here)

  -- the next entry was judged by its derivation
  pub gathered_derivation : (es : List Entry) (gs : List Gap) (ds : List Derivation) (e : Entry) (d : Derivation) (g h : Gathering) → g.pending.items ≡ e ∷ h.pending.items → h.drops ≡ g.drops →
      JudgesNext j g.checked g.refused e d h.checked h.refused → IsGathered j es gs ds g → IsGathered j (es ++ []) (gs ++ []) (ds ++ d ∷ []) h
  gathered_derivation es gs ds e d g h next drops judges (dropped, done, are, judged) =
      let here : IsGathered j es gs (ds ++ d ∷ []) h = (
        drops ∙ dropped,
        done ++ e ∷ [],
        are ∙ ap (λ l. done ++ l) next ∙ sym (append_assoc done (e ∷ []) h.pending.items),
        judges done ds judged,
      ) in
      subst (λ l. IsGathered j l (gs ++ []) (ds ++ d ∷ []) h) (sym (append-nil es)) (subst (λ l. IsGathered j es l (ds ++ d ∷ []) h) (sym (append-nil gs)) here)

  -- ---- entries and derivations

  derived_many : (xs : List Entry) (ds : List Derivation) → AreDerived j xs ds → length ds ≡ length xs
  derived_many [] ds h = ap length h
  derived_many (x ∷ xs) [] h = absurd h
  derived_many (x ∷ xs) (d ∷ ds) h = ap suc (derived_many xs ds h.1)

  judged_many : (done : List Entry) (ds : List Derivation) (all : List Checked) (o : Option Refusal) → AreJudged j done ds all o → length ds ≡ length done
  judged_many done ds all None h = derived_many done ds h.derived
  judged_many done ds all (Some r) h = h.0

  derived_more : (xs : List Entry) (ds : List Derivation) (x : Entry) (d : Derivation) → AreDerived j xs ds → Derives j x d.steps → AreDerived j (xs ++ x ∷ []) (ds ++ d ∷ [])
  derived_more [] ds x d none derives = subst (λ l. AreDerived j (x ∷ []) (l ++ d ∷ [])) (sym none) (derives, refl)
  derived_more (y ∷ xs) [] x d h derives = absurd h
  derived_more (y ∷ xs) (b ∷ ds) x d h derives = (h.0, derived_more xs ds x d h.1 derives)

  first_here : (xs : List Entry) (ds : List Derivation) (x : Entry) (d : Derivation) (step : ℕ) → AreDerived j xs ds → FailsAt j x d step → FirstFails j (xs ++ x ∷ []) (ds ++ d ∷ []) (length xs) step
  first_here [] ds x d step none fails = subst (λ l. FirstFails j (x ∷ []) (l ++ d ∷ []) 0 step) (sym none) fails
  first_here (y ∷ xs) [] x d step h fails = absurd h
  first_here (y ∷ xs) (b ∷ ds) x d step h fails = (h.0, first_here xs ds x d step h.1 fails)

  first_still : (xs : List Entry) (ds : List Derivation) (ys : List Entry) (es : List Derivation) (n step : ℕ) → FirstFails j xs ds n step → FirstFails j (xs ++ ys) (ds ++ es) n step
  first_still [] ds ys es n step h = absurd h
  first_still (x ∷ xs) [] ys es n step h = absurd h
  first_still (x ∷ xs) (d ∷ ds) ys es zero step h = h
  first_still (x ∷ xs) (d ∷ ds) ys es (suc n) step h = (h.0, first_still xs ds ys es n step h.1)

  jobs_more : (all : List Checked) (c : Checked) → AreOf j all → job_of c ≡ j → AreOf j (all ++ c ∷ [])
  jobs_more [] c h job = (job, tt)
  jobs_more (b ∷ all) c h job = (h.0, jobs_more all c h.1 job)

  checked_more : (done : List Entry) (ds : List Derivation) (all new : List Checked) (x : Entry) (d : Derivation) (c : Checked) → new ≡ all ++ c ∷ [] → entry_of c ≡ x → job_of c ≡ j →
      Derives j x d.steps → AreChecked j done ds all → AreChecked j (done ++ x ∷ []) (ds ++ d ∷ []) new
  checked_more done ds all new x d c pushed entry job derives h = subst (λ l. AreChecked j (done ++ x ∷ []) (ds ++ d ∷ []) l) (sym pushed) (record {
    entries = map_push entry_of all c ∙ ap (λ l. l ++ entry_of c ∷ []) h.entries ∙ ap (λ z. done ++ z ∷ []) entry;
    jobs = jobs_more all c h.jobs job;
    derived = derived_more done ds x d h.derived derives;
  })

  pub refused_next : (done : List Entry) (ds : List Derivation) (all new : List Checked) (x : Entry) (d : Derivation) (place entry step : ℕ) → place ≡ length all →
      IsRefusal j x d place (Refused entry step) → AreChecked j done ds all → (length (ds ++ d ∷ []) ≡ length (done ++ x ∷ [])) × FirstFails j (done ++ x ∷ []) (ds ++ d ∷ []) entry step
  refused_next done ds all new x d place entry step is (at, fails) h =
      let many : length ds ≡ length done = derived_many done ds h.derived in
      let as_many : length all ≡ length done = sym (length-map all entry_of) ∙ ap length h.entries in
      let here : length done ≡ entry = sym (at ∙ is ∙ as_many) in (
        omega (arith, many, length-append ds (d ∷ []), length-append done (x ∷ [])),
        subst (λ n. FirstFails j (done ++ x ∷ []) (ds ++ d ∷ []) n step) here (first_here done ds x d step h.derived fails),
      )

  refused_still : (done : List Entry) (ds : List Derivation) (x : Entry) (d : Derivation) (r : Refusal) → (length ds ≡ length done) × FirstFails j done ds r.entry r.step →
      (length (ds ++ d ∷ []) ≡ length (done ++ x ∷ [])) × FirstFails j (done ++ x ∷ []) (ds ++ d ∷ []) r.entry r.step
  refused_still done ds x d r (many, fails) = (
    omega (arith, many, length-append ds (d ∷ []), length-append done (x ∷ [])),
    first_still done ds (x ∷ []) (d ∷ []) r.entry r.step fails,
  )

  -- ---- one entry more is judged

  pub judged_still : (done : List Entry) (ds : List Derivation) (all new : List Checked) (x : Entry) (d : Derivation) (o : Option Refusal) (r : Refusal) → o ≡ Some r → AreJudged j done ds all o →
      AreJudged j (done ++ x ∷ []) (ds ++ d ∷ []) new (Some r)
  judged_still done ds all new x d o r is judged = refused_still done ds x d r (subst (λ z. AreJudged j done ds all z) is judged)

  pub judged_next : {E : Type 0} (all new : List Checked) (x : Entry) (d : Derivation) (o : Option Refusal) (answer : Result (Option Refusal) E) → o ≡ None →
      IfOk answer (JudgesNext j all None x d new) → IfOk answer (JudgesNext j all o x d new)
  judged_next all new x d o (Ok r) is h = λ done ds judged. h done ds (subst (λ z. AreJudged j done ds all z) is judged)
  judged_next all new x d o (Err e) is h = tt

  pub kept_next : {E : Type 0} (all new : List Checked) (x : Entry) (d : Derivation) (c : Checked) (answer : Result (Option Refusal) E) → IfOk answer (λ o. o ≡ None) → OnOk answer (new ≡ all ++ c ∷ []) →
      entry_of c ≡ x → job_of c ≡ j → Derives j x d.steps → IfOk answer (JudgesNext j all None x d new)
  kept_next all new x d c (Ok o) none pushed entry job derives =
      λ done ds checked. subst (λ z. AreJudged j (done ++ x ∷ []) (ds ++ d ∷ []) new z) (sym none) (checked_more done ds all new x d c pushed entry job derives checked)
  kept_next all new x d c (Err e) none pushed entry job derives = tt

  -- ---- what the message gives

  -- more derivations than entries
  pub too_many : (v : ℕ) (parts : List Part) (g : Gathering) (d : Derivation) → g.pending.items ≡ [] → IsOpen v j parts g → IsLostBy v j (parts ++ P.Derivation d ∷ []) (Refused 0 0)
  too_many v parts g d none (tail, first, (dropped, done, are, judged)) bytes own m others spells replying is =
      let all : parts_of own m ≡ P.Head v j.ticket j.kinds ∷ (tail ++ P.Derivation d ∷ others) =
      is ∙ append_assoc parts (P.Derivation d ∷ []) others ∙ ap (λ l. l ++ P.Derivation d ∷ others) first in
      let h = of_head own m v j.ticket j.kinds (tail ++ P.Derivation d ∷ others) replying all in
      let entries : entries_in tail ≡ h.0.entries = entries_before h.0 h.1 tail others d h.3 in
      let more = more_derivations h.0 h.1 tail others d h.3 in
      let done_is : entries_in tail ≡ done = are ∙ ap (λ l. done ++ l) none ∙ append-nil done in
      let many : length (derivations_in tail) ≡ length done = judged_many done (derivations_in tail) g.checked g.refused judged in
      let as_many : length done ≡ length h.0.entries = ap length (sym done_is ∙ entries) in
      (h.0, h.1, as_asked v own bytes m (reply j.ticket j.kinds h.0 h.1) h.4 h.2 spells, inl (λ same. omega (arith, same, more, many, as_many), refl, refl))

  record IsClosed (v : ℕ) (bytes : List ℕ) (g : Gathering) : Type 0 where
    table : Table
    ds : List Derivation
    spells : SpellsIn v bytes (reply j.ticket j.kinds table ds)
    drops : g.drops ≡ table.drops
    done : List Entry
    entries : done ++ g.pending.items ≡ table.entries
    judged : AreJudged j done ds g.checked g.refused

  closes : (v : ℕ) (parts : List Part) (bytes : List ℕ) (own : ℕ) (m : MessageTree) (g : Gathering) → IsOpen v j parts g → SpellsIn own bytes m → IsReplying m → parts_of own m ≡ parts → IsClosed v bytes g
  closes v parts bytes own m g (tail, first, (dropped, done, are, judged)) spells replying is =
      let h = of_head own m v j.ticket j.kinds tail replying (is ∙ first) in
      let t = table_of h.0 h.1 tail h.3 in
      record {
        table = h.0;
        ds = h.1;
        spells = as_asked v own bytes m (reply j.ticket j.kinds h.0 h.1) h.4 h.2 spells;
        drops = dropped ∙ t.drops;
        done = done;
        entries = sym are ∙ t.entries;
        judged = subst (λ l. AreJudged j done l g.checked g.refused) t.derivations judged;
      }

  some_left : (l : List Entry) → l ≢ [] → 0 < length l
  some_left [] some = absurd (some refl)
  some_left (x ∷ l) some = omega arith

  pub too_few : (v : ℕ) (parts : List Part) (bytes : List ℕ) (own : ℕ) (m : MessageTree) (g : Gathering) → g.pending.items ≢ [] → IsOpen v j parts g → SpellsIn own bytes m → IsReplying m →
      parts_of own m ≡ parts → IsFaultIn v j bytes (Refused 0 0)
  too_few v parts bytes own m g some opened spells replying is =
      let c = closes v parts bytes own m g opened spells replying is in
      let many : length c.ds ≡ length c.done = judged_many c.done c.ds g.checked g.refused c.judged in
      let all : length c.done + length g.pending.items ≡ length c.table.entries = sym (length-append c.done g.pending.items) ∙ ap length c.entries in
      let left = some_left g.pending.items some in
      (c.table, c.ds, c.spells, inl (λ same. omega (arith, same, many, all, left), refl, refl))

  all_done : (v : ℕ) (bytes : List ℕ) (g : Gathering) (c : IsClosed v bytes g) → g.pending.items ≡ [] → c.done ≡ c.table.entries
  all_done v bytes g c none = sym (append-nil c.done) ∙ ap (λ l. c.done ++ l) (sym none) ∙ c.entries

  pub first_refused : (v : ℕ) (parts : List Part) (bytes : List ℕ) (own : ℕ) (m : MessageTree) (g : Gathering) (r : Refusal) → g.pending.items ≡ [] → g.refused ≡ Some r → IsOpen v j parts g →
      SpellsIn own bytes m → IsReplying m → parts_of own m ≡ parts → IsFaultIn v j bytes (Refused r.entry r.step)
  first_refused v parts bytes own m g r none refused opened spells replying is =
      let c = closes v parts bytes own m g opened spells replying is in
      let judged = subst (λ o. AreJudged j c.done c.ds g.checked o) refused c.judged in
      let same = all_done v bytes g c none in
      (c.table, c.ds, c.spells, inr (judged.0 ∙ ap length same, subst (λ l. FirstFails j l c.ds r.entry r.step) same judged.1))

  pub tells_nothing : (v : ℕ) (parts : List Part) (s : Standing) → s ≡ S.Unbegun → IsStanding v j parts s → Tells v j parts (Err Frame)
  tells_nothing v parts s is standing bytes own m spells replying are =
      let none : parts ≡ [] = subst (λ z. IsStanding v j parts z) is standing in
      absurd (of_nothing own m replying (are ∙ none))

  pub tells_fault : (v : ℕ) (parts : List Part) (s : Standing) (why : Lost) → s ≡ S.Lost why → IsStanding v j parts s → Tells v j parts (Err why)
  tells_fault v parts s why is standing bytes own m spells replying are =
      let lost : IsLostBy v j parts why = subst (λ z. IsStanding v j parts z) is standing in
      lost bytes own m [] spells replying (are ∙ sym (append-nil parts))

  abbrev table_with : List Entry → List Gap → Table
  table_with entries drops = record { entries = entries; drops = drops }

  same_table : (t u : Table) → t.entries ≡ u.entries → t.drops ≡ u.drops → t ≡ u
  same_table t u entries drops = ap (λ l. table_with l t.drops) entries ∙ ap (λ l. table_with u.entries l) drops

  pub gives : (v : ℕ) (parts : List Part) (bytes : List ℕ) (own : ℕ) (m : MessageTree) (g : Gathering) → g.pending.items ≡ [] → g.refused ≡ None → IsOpen v j parts g → SpellsIn own bytes m →
      IsReplying m → parts_of own m ≡ parts → AreOf j g.checked × GivesTable v j bytes (table_from g.checked g.drops)
  gives v parts bytes own m g none unrefused opened spells replying is =
      let c = closes v parts bytes own m g opened spells replying is in
      let checked : AreChecked j c.done c.ds g.checked = subst (λ o. AreJudged j c.done c.ds g.checked o) unrefused c.judged in
      let t : Table = table_from g.checked g.drops in
      let entries : map entry_of g.checked ≡ c.table.entries = checked.entries ∙ all_done v bytes g c none in
      let same : c.table ≡ t = sym (same_table t c.table entries c.drops) in
      (checked.jobs, (c.ds, subst (λ z. SpellsIn v bytes (reply j.ticket j.kinds z c.ds)) same c.spells, subst (λ l. AreDerived j l c.ds) (sym checked.entries) checked.derived))
