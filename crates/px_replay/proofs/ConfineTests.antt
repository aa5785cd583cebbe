-- Comparisons, inputs and new blocks are confined.
use Rattle.std.proofs.Common.{◌≡◌, ◌⊎◌, ℕ, suc, ◌+◌, ◌≤◌, ℤ, negsuc, pos, ◌≤ℤ◌, Bool, true, false, List, [], ◌∷◌, ◌++◌, drop, length, refl, sym, ap, subst, ◌∙◌, inl, inr, Result, Ok, Err, arith, append_assoc}
use Rattle.std.proofs.lemmas.List.{length-append}
use Rattle.px_base.specs.declared.trace.Site.{Site}
use Rattle.px_base.specs.declared.trace.Mark.{Mark}
use Rattle.px_base.specs.declared.trace.MarkKind.{MarkKind}
use Rattle.px_base.specs.declared.trace.MarkKind.TheVariants.{Then, Else, Got, NoBlock}
use Rattle.px_meaning.specs.Values.{TypeId, BlockType, Value, Word, Null, Block}
use Rattle.px_meaning.specs.Heaps.{HeapMap, with_block}
use Rattle.px_meaning.specs.Events.{Event, marks, reads, makes, mark}
use Rattle.px_meaning.specs.Execution.{Locals}
use Rattle.px_meaning.specs.Steps.{ProcedureCalls, marking, new_block}
use Rattle.px_meaning.specs.TreeExecution.{gives, Outcomes, yes, no, fault, Verdicts, Branches, RelationHolds, RelationFails, Evaluates}
use Rattle.px_meaning.proofs.TreeBegins.{Begins, Opens, OpensErr, shorter, branches_begin}
use Rattle.px_syntax.specs.TypedTree.{allocate, get_char}
use Rattle.px_syntax.specs.declared.typed_expression.Relation.{Relation}
use Rattle.px_syntax.specs.declared.typed_expression.Relation.TheVariants.{Equal, Unequal, Less, Greater, AtMost, AtLeast, SamePlace, OtherPlace}
use Rattle.px_replay.specs.declared.stop.Stop.{Stop}
use Rattle.px_replay.specs.declared.stop.Stop.TheVariants as stop
use Rattle.px_replay.specs.Following.{IsTaken}
use Rattle.px_replay.specs.Beginnings.{see}
use Rattle.px_replay.specs.Operations.{IsOutcome}
use Rattle.px_replay.specs.Script.{PlainScript, behind, answers, takes_input, allocates}
use Rattle.px_replay.specs.TreeReplay.{branches, compares}
use Rattle.px_replay.proofs.OneFollowed.{one_least}
use Rattle.px_replay.proofs.TakenBlocks.{block_taken}
use Rattle.px_replay.proofs.ConfineEvents.{Obeys, obeys_alike}
use Rattle.px_replay.proofs.Confine.{no_cut, At, Comes, Confines, comes_at, at_end, at_mark, not_other, fewer, at_once, departs}
use Rattle.px_replay.proofs.ConfineForms.{outcomes, verdicts}
use Rattle.px_replay.proofs.ConfineActs.{mark_first}
use Rattle.px_meaning.proofs.Pairs.{equal_unequal, less_at_most, same_other}

-- a comparison isn't both true and false
not_both : (r : Relation) (a b : Value) → RelationHolds r a b → RelationFails r a b → ⊥
not_both Equal a b h f = equal_unequal a b h f
not_both Unequal a b h f = equal_unequal a b f h
not_both Less a b h f = less_at_most a b h f
not_both Greater a b h f = less_at_most b a h f
not_both AtMost a b h f = less_at_most b a f h
not_both AtLeast a b h f = less_at_most a b f h
not_both SamePlace a b h f = same_other a b h f
not_both OtherPlace a b h f = same_other a b f h

module _ (t : List Event) (size : ℕ) (types : List BlockType) (C : ProcedureCalls Event) where
  -- the two outcomes of a test
  branches_part : (r : Relation) (x y : Value) (site : Site) (o : Result Bool Stop) → IsOutcome r x y o →
      Confines t size verdicts (branches site o) (λ K so_far heap. Branches see types C (RelationHolds r x y) (RelationFails r x y) site so_far heap K) no_cut
  branches_part r x y site (Ok true) i =
      fewer t size (λ K a heap d. elim d [ inl d ↦ d.1 | inr d ↦ absurd (not_both r x y i d.0) ]) (λ a heap c. c) (mark_first t size Then site (at_once t size verdicts true))
  branches_part r x y site (Ok false) i =
      fewer t size (λ K a heap d. elim d [ inl d ↦ absurd (not_both r x y d.0 i) | inr d ↦ d.1 ]) (λ a heap c. c) (mark_first t size Else site (at_once t size verdicts false))
  branches_part r x y site (Err stop.Departs) i = fewer t size (λ K a heap d. elim d [ inl d ↦ i.0 d.0 | inr d ↦ i.1 d.0 ]) (λ a heap c. c) (departs t size verdicts)
  branches_part r x y site (Err (stop.Failed kind at)) i = absurd i
  branches_part r x y site (Err stop.NoMemory) i = absurd i

  opens : (K : Verdicts Event) → OpensErr t (verdicts.on_error K) → Opens t (verdicts.on_answer K) → Opens t K
  opens K oe oa a yes h k = oa a true h k
  opens K oe oa a no h k = oa a false h k
  opens K oe oa a (fault kind site) h k = oe a kind site h k

  pub compares_part : (r : Relation) (x y : Value) (site : Site) →
      Confines t size verdicts (compares r x y site) (λ K so_far heap. Branches see types C (RelationHolds r x y) (RelationFails r x y) site so_far heap K) no_cut
  compares_part r x y site = record {
    shrinks = λ s b s' (o, i, h). (branches_part r x y site o i).shrinks s b s' h;
    begins = λ K a heap oe oa d. branches_begin see types C t (RelationHolds r x y) (RelationFails r x y) site a heap K (opens K oe oa) d;
    only = λ K a s b s' oe oa (o, i, h) at d. (branches_part r x y site o i).only K a s b s' oe oa h at d;
    cut_begins = λ a heap c. absurd c;
    no_further = λ a s b s' h at c. absurd c;
  }

  -- ---- the value of an input

  abbrev first_of : List ℤ → ℤ → ℤ
  first_of [] z = z
  first_of (y ∷ more) z = y

  input_only : (K : Outcomes Event) (a : List Event) (site : Site) (s : PlainScript) (r : Result Value Stop) (s' : PlainScript) (y : ℤ) → negsuc 0 ≤ℤ y → y ≤ℤ pos 255 →
      takes_input site s r s' → At t size a s → Begins t (a ++ reads site y ∷ []) → K (a ++ reads site y ∷ []) (gives (Word y)) s.heap → Comes t size (outcomes.on_error K) (outcomes.on_answer K) r s'
  input_only K a site s r s' y low high (inl (z, (em, ei, eh, low', high'), e)) at (u, f) k =
      let (rest, more, fm, fi, o) = at.obeys (reads site y ∷ u) (f ∙ append_assoc a (reads site y ∷ []) u) in
      let same : z ≡ y = ap (λ is. first_of is z) (sym ei ∙ fi) in
      let there : At t size (a ++ reads site y ∷ []) s' = record {
        taken =
            let n : length (a ++ reads site y ∷ []) ≡ length a + 1 = length-append a (reads site y ∷ []) in
            let m : length s.marks ≡ suc (length s'.marks) = ap length em in
            let l : length a + length s.marks ≡ size = at.taken in omega arith;
        obeys = λ u f. let (rest, more, fm, fi, o) = at.obeys (reads site y ∷ u) (f ∙ append_assoc a (reads site y ∷ []) u) in
            subst (λ (h : HeapMap). Obeys (IsTaken h) s'.inputs s'.marks u) (sym eh)
            (subst (λ (is : List ℤ). Obeys (IsTaken s.heap) is s'.marks u) (ap (drop 1) (sym fi ∙ ei)) (subst (λ (ms : List Mark). Obeys (IsTaken s.heap) more ms u) (ap (drop 1) (sym fm ∙ em)) o));
      } in
      comes_at t size (outcomes.on_error K) (outcomes.on_answer K) (Ok (Word y)) r s' s'
      (a ++ reads site y ∷ [], there, subst (λ (h : HeapMap). K (a ++ reads site y ∷ []) (gives (Word y)) h) (sym eh) k) (e ∙ ap (λ z. Ok (Word z)) same, refl)
  input_only K a site s r s' y low high (inr (none, h)) at (u, f) k =
      let (rest, more, fm, fi, o) = at.obeys (reads site y ∷ u) (f ∙ append_assoc a (reads site y ∷ []) u) in
      absurd (none y (record { marks = rest; inputs = more; heap = s.heap }) (fm, fi, refl, low, high))

  input_shrinks : (site : Site) (s : PlainScript) (r : Result Value Stop) (s' : PlainScript) → takes_input site s r s' → length s'.marks ≤ length s.marks
  input_shrinks site s r s' (inl (z, (em, ei, eh, low, high), e)) = let n : length s.marks ≡ suc (length s'.marks) = ap length em in omega arith
  input_shrinks site s r s' (inr (none, h)) = at_end t size (Err stop.Departs) r s s' h

  pub input_part : (site : Site) (l : Locals) → Confines t size outcomes (takes_input site) (λ K so_far heap. Evaluates see types C (get_char site) l so_far heap K) no_cut
  input_part site l = record {
    shrinks = input_shrinks site;
    begins = λ K a heap oe oa (y, low, high, k). shorter t a (reads site y ∷ []) (oa (a ++ reads site y ∷ []) (Word y) heap k);
    only = λ K a s r s' oe oa h at (y, low, high, k). input_only K a site s r s' y low high h at (oa (a ++ reads site y ∷ []) (Word y) s.heap k) k;
    cut_begins = λ a heap c. absurd c;
    no_further = λ a s r s' h at c. absurd c;
  }

  -- ---- new blocks

  different : (j k : MarkKind) (site : Site) (ms rest rest' : List Mark) → (j ≡ k → ⊥) → ms ≡ mark j site ∷ rest → ms ≡ mark k site ∷ rest' → ⊥
  different j k site ms rest rest' f e e' = f (ap (λ ms. kind_of ms) (sym e ∙ e'))
    where
      kind_of : List Mark → MarkKind
      kind_of [] = j
      kind_of (m ∷ more) = m.kind

  block_there : (a : List Event) (site : Site) (s : PlainScript) (m : ℕ) (b : TypeId) (rest : List Mark) → s.marks ≡ mark Got site ∷ rest → At t size a s →
      At t size (a ++ makes site m ∷ []) (behind s rest (with_block s.heap m (new_block types b.0)))
  block_there a site s m b rest e at = record {
    taken =
        let n : length (a ++ makes site m ∷ []) ≡ length a + 1 = length-append a (makes site m ∷ []) in
        let k : length s.marks ≡ suc (length rest) = ap length e in
        let l : length a + length s.marks ≡ size = at.taken in omega arith;
    obeys = λ u f. let (rest', e', least, o) = at.obeys (makes site m ∷ u) (f ∙ append_assoc a (makes site m ∷ []) u) in
        obeys_alike (λ k. IsTaken s.heap k ⊎ (k ≡ m)) (IsTaken (with_block s.heap m (new_block types b.0))) s.inputs rest u (block_taken s.heap m (new_block types b.0))
        (subst (λ (ms : List Mark). Obeys (λ k. IsTaken s.heap k ⊎ (k ≡ m)) s.inputs ms u) (ap (drop 1) (sym e' ∙ e)) o);
  }

  -- a new block with this number
  made_only : (K : Outcomes Event) (a : List Event) (b : TypeId) (site : Site) (s : PlainScript) (r : Result Value Stop) (s' : PlainScript) (m : ℕ) →
      allocates types b site s r s' → At t size a s → Begins t (a ++ makes site m ∷ []) → K (a ++ makes site m ∷ []) (gives (Block m)) (with_block s.heap m (new_block types b.0)) →
      Comes t size (outcomes.on_error K) (outcomes.on_answer K) r s'
  made_only K a b site s r s' m (inl (rest, e, h)) at (u, f) k =
      let (rest', e', least, o) = at.obeys (makes site m ∷ u) (f ∙ append_assoc a (makes site m ∷ []) u) in
      absurd (different NoBlock Got site s.marks rest rest' (λ d. cc) e e')
  made_only K a b site s r s' m (inr (inl (rest, n, e, least, h))) at (u, f) k =
      let (rest', e', least', o) = at.obeys (makes site m ∷ u) (f ∙ append_assoc a (makes site m ∷ []) u) in
      let same : n ≡ m = one_least (IsTaken s.heap) n m least least' in
      comes_at t size (outcomes.on_error K) (outcomes.on_answer K) (Ok (Block m)) r (behind s rest (with_block s.heap m (new_block types b.0))) s' (a ++ makes site m ∷ [], block_there a site s m b rest e at, k)
      (subst (λ n. answers (Ok (Block n)) (behind s rest (with_block s.heap n (new_block types b.0))) r s') same h)
  made_only K a b site s r s' m (inr (inr (o, o', h))) at (u, f) k =
      let (rest', e', least, ob) = at.obeys (makes site m ∷ u) (f ∙ append_assoc a (makes site m ∷ []) u) in absurd (o' rest' e')

  null_only : (K : Outcomes Event) (a : List Event) (b : TypeId) (site : Site) (s : PlainScript) (r : Result Value Stop) (s' : PlainScript) →
      allocates types b site s r s' → At t size a s → Begins t (a ++ marking see NoBlock site) → K (a ++ marking see NoBlock site) (gives Null) s.heap →
      Comes t size (outcomes.on_error K) (outcomes.on_answer K) r s'
  null_only K a b site s r s' (inl (rest, e, h)) at begin k =
      comes_at t size (outcomes.on_error K) (outcomes.on_answer K) (Ok Null) r (behind s rest s.heap) s' (a ++ marking see NoBlock site, at_mark t size a s (mark NoBlock site) rest e at, k) h
  null_only K a b site s r s' (inr (inl (rest, n, e, least, h))) at (u, f) k =
      let (rest', e', o) = at.obeys (marks (mark NoBlock site) ∷ u) (f ∙ append_assoc a (marking see NoBlock site) u) in
      absurd (different NoBlock Got site s.marks rest' rest (λ d. cc) e' e)
  null_only K a b site s r s' (inr (inr (o, o', h))) at begin k = absurd (not_other t size a s (mark NoBlock site) at begin o)

  allocate_shrinks : (b : TypeId) (site : Site) (s : PlainScript) (r : Result Value Stop) (s' : PlainScript) → allocates types b site s r s' → length s'.marks ≤ length s.marks
  allocate_shrinks b site s r s' (inl (rest, e, h)) =
      let n : length s.marks ≡ suc (length rest) = ap length e in let m : length s'.marks ≤ length rest = at_end t size (Ok Null) r (behind s rest s.heap) s' h in omega arith
  allocate_shrinks b site s r s' (inr (inl (rest, n, e, least, h))) =
      let k : length s.marks ≡ suc (length rest) = ap length e in
      let m : length s'.marks ≤ length rest = at_end t size (Ok (Block n)) r (behind s rest (with_block s.heap n (new_block types b.0))) s' h in omega arith
  allocate_shrinks b site s r s' (inr (inr (o, o', h))) = at_end t size (Err stop.Departs) r s s' h

  pub allocate_part : (b : TypeId) (site : Site) (l : Locals) → Confines t size outcomes (allocates types b site) (λ K so_far heap. Evaluates see types C (allocate b site) l so_far heap K) no_cut
  allocate_part b site l = record {
    shrinks = allocate_shrinks b site;
    begins = λ K a heap oe oa d. elim d [
      | inl k ↦ shorter t a (marking see NoBlock site) (oa (a ++ marking see NoBlock site) Null heap k)
      | inr (m, out, k) ↦ shorter t a (makes site m ∷ []) (oa (a ++ makes site m ∷ []) (Block m) (with_block heap m (new_block types b.0)) k)
    ];
    only = λ K a s r s' oe oa h at d. elim d [
      | inl k ↦ null_only K a b site s r s' h at (oa (a ++ marking see NoBlock site) Null s.heap k) k
      | inr (m, out, k) ↦ made_only K a b site s r s' m h at (oa (a ++ makes site m ∷ []) (Block m) (with_block s.heap m (new_block types b.0)) k) k
    ];
    cut_begins = λ a heap c. absurd c;
    no_further = λ a s r s' h at c. absurd c;
  }
