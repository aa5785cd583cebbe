-- What an act takes of its script, as the events of an execution.
use Rattle.std.proofs.Common.{◌≡◌, ℕ, ℤ, List, [], ◌∷◌, ◌++◌, map, ◌⊎◌, refl, sym, ap, subst, ◌∙◌, append_assoc}
use Rattle.std.proofs.lemmas.List.{append-nil, map-append}
use Rattle.px_base.specs.declared.trace.Site.{Site}
use Rattle.px_base.specs.declared.trace.Mark.{Mark}
use Rattle.px_base.specs.declared.trace.MarkKind.{MarkKind}
use Rattle.px_base.specs.declared.trace.MarkKind.TheVariants.{Got}
use Rattle.px_meaning.specs.Heaps.{HeapMap, HeapBlock, with_block}
use Rattle.px_meaning.specs.Events.{Event, marks, reads, makes, mark, mark_of}
use Rattle.px_replay.specs.Following.{SaysAll, IsLeast, Follows, IsTaken}
use Rattle.px_replay.specs.Script.{PlainScript, behind, HasInput}
use Rattle.px_replay.proofs.TakenBlocks.{SameTaken, least_alike, also_alike, block_taken}

-- the events follow these marks of the script
abbrev FollowsScript : PlainScript → List Mark → List Event → Type 0
FollowsScript s trace events = Follows (IsTaken s.heap) s.inputs trace events

-- The events lead from one script to another: their marks are used up, and what follows the second script follows the
-- first after them.
pub record Consumes (s s' : PlainScript) (t : List Event) : Type 0 where
  pub used : s.marks ≡ map mark_of t ++ s'.marks
  pub before : (trace : List Mark) (u : List Event) → FollowsScript s' trace u → FollowsScript s (map mark_of t ++ trace) (t ++ u)

follows_alike : (taken taken' : ℕ → Type 0) (inputs : List ℤ) (trace : List Mark) (t : List Event) → SameTaken taken taken' → Follows taken' inputs trace t → Follows taken inputs trace t
follows_alike taken taken' inputs [] [] a h = h
follows_alike taken taken' inputs [] (e ∷ t) a h = h
follows_alike taken taken' inputs (m ∷ trace) [] a h = h
follows_alike taken taken' inputs (m ∷ trace) (marks k ∷ t) a h = (h.0, h.1, follows_alike taken taken' inputs trace t a h.2)
follows_alike taken taken' [] (m ∷ trace) (reads site z ∷ t) a h = h
follows_alike taken taken' (i ∷ inputs) (m ∷ trace) (reads site z ∷ t) a h = (h.0, h.1, follows_alike taken taken' inputs trace t a h.2)
follows_alike taken taken' inputs (m ∷ trace) (makes site n ∷ t) a h = (
  h.0,
  least_alike taken' taken n (λ k. ((a k).1, (a k).0)) h.1,
  follows_alike (λ k. taken k ⊎ (k ≡ n)) (λ k. taken' k ⊎ (k ≡ n)) inputs trace t (also_alike taken taken' n a) h.2,
)

pub consumes_nothing : (s : PlainScript) → Consumes s s []
consumes_nothing s = record { used = refl; before = λ trace u h. h }

-- nothing is used up where blocks that are there are written
pub consumes_write : (s : PlainScript) (heap : HeapMap) → SameTaken (IsTaken s.heap) (IsTaken heap) → Consumes s (behind s s.marks heap) []
consumes_write s heap same = record { used = refl; before = λ trace u h. follows_alike (IsTaken s.heap) (IsTaken heap) s.inputs trace u same h }

pub consumes_mark : (s : PlainScript) (rest : List Mark) (kind : MarkKind) (site : Site) → SaysAll kind → s.marks ≡ mark kind site ∷ rest → Consumes s (behind s rest s.heap) (marks (mark kind site) ∷ [])
consumes_mark s rest kind site all e = record { used = e; before = λ trace u h. (refl, all, h) }

pub consumes_input : (site : Site) (s s' : PlainScript) (z : ℤ) → HasInput site s s' z → Consumes s s' (reads site z ∷ [])
consumes_input site s s' z has = record {
  used = has.0;
  before = λ trace u h.
      subst (λ zs. Follows (IsTaken s.heap) zs (mark_of (reads site z) ∷ trace) (reads site z ∷ u)) (sym has.1)
      (subst (λ heap. Follows (IsTaken heap) (z ∷ s'.inputs) (mark_of (reads site z) ∷ trace) (reads site z ∷ u)) has.2 (refl, refl, h));
}

pub consumes_block : (s : PlainScript) (rest : List Mark) (site : Site) (n : ℕ) (b : HeapBlock) → s.marks ≡ mark Got site ∷ rest → IsLeast (IsTaken s.heap) n →
    Consumes s (behind s rest (with_block s.heap n b)) (makes site n ∷ [])
consumes_block s rest site n b e least = record {
  used = e;
  before = λ trace u h. (refl, least, follows_alike (λ k. IsTaken s.heap k ⊎ (k ≡ n)) (IsTaken (with_block s.heap n b)) s.inputs trace u (block_taken s.heap n b) h);
}

-- one act after another
pub consumes_append : (s m s' : PlainScript) (t u : List Event) → Consumes s m t → Consumes m s' u → Consumes s s' (t ++ u)
consumes_append s m s' t u h k = record {
  used = h.used ∙ ap (λ r. map mark_of t ++ r) k.used ∙ sym (append_assoc (map mark_of t) (map mark_of u) s'.marks) ∙ ap (λ f. f ++ s'.marks) (sym (map-append mark_of t u));
  before = λ trace v f.
      let along : FollowsScript s (map mark_of t ++ (map mark_of u ++ trace)) (t ++ (u ++ v)) = h.before (map mark_of u ++ trace) (u ++ v) (k.before trace v f) in
      let same : map mark_of t ++ (map mark_of u ++ trace) ≡ map mark_of (t ++ u) ++ trace = sym (append_assoc (map mark_of t) (map mark_of u) trace) ∙ ap (λ ms. ms ++ trace) (sym (map-append mark_of t u)) in
      subst (λ ms. FollowsScript s ms ((t ++ u) ++ v)) same (subst (FollowsScript s (map mark_of t ++ (map mark_of u ++ trace))) (sym (append_assoc t u v)) along);
}

-- the events follow their marks
pub consumed_follow : (s s' : PlainScript) (t : List Event) → Consumes s s' t → FollowsScript s (map mark_of t) t
consumed_follow s s' t h =
    subst (λ ms. FollowsScript s ms t) (append-nil (map mark_of t)) (subst (FollowsScript s (map mark_of t ++ [])) (append-nil t) (h.before [] [] _))
