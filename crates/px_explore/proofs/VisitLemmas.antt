-- What a visit adds to what was found, and what it leaves.
use Rattle.std.proofs.Common.{◌≡◌, ℕ, ◌+◌, ◌<◌, ◌≤◌, List, [], ◌∷◌, ◌++◌, length, drop, refl, sym, ◌∙◌, ap, subst, arith, inl, inr, append-nil, length-append, Option, Some, None}
use Rattle.px_entry.specs.declared.derivations.Step.{Step}
use Rattle.px_entry.specs.declared.tables.Cause.{Cause}
use Rattle.px_entry.proofs.Lists.{Each}
use Rattle.px_callgraph.specs.JobTree.{JobTree}
use Rattle.px_callgraph.specs.declared.outcomes.StepOutcome.TheVariants.{Next}
use Rattle.px_walks.specs.Walks.{walk_of}
use Rattle.px_symexec.specs.Tables.{IsLive, ended_case, ended_cases, Row, entries_in, drops_in, Walked}
use Rattle.px_symexec.proofs.LiveLemmas.{IsNotLive, out_reached}
use Rattle.px_symexec.proofs.TableLemmas.{ended_more, walked_none, walked_live}
use Rattle.px_explore.specs.declared.stops.Fork.{Fork}
use Rattle.px_explore.specs.declared.stops.Stop.{Stop}
use Rattle.px_explore.specs.declared.stops.Stop.TheVariants as S
use Rattle.px_explore.specs.declared.weigh.Weighed.{Weighed}
use Rattle.px_explore.specs.declared.weigh.Weighed.TheVariants as W
use Rattle.px_explore.specs.declared.branch_points.BranchPoint.{BranchPoint}
use Rattle.px_explore.specs.declared.results.SearchResult.{SearchResult}
use Rattle.px_explore.specs.Paths.{Path, prefixes_in}
use Rattle.px_explore.specs.Stops.{prefix_of, steps_at, path_of, extensions, extensions_of, IsFork, ForksRightly, IsStop}
use Rattle.px_explore.specs.Own.{AreOwnOf}
use Rattle.px_explore.specs.Weights.{IsLast, IsLiveAs, IsWeighed, row_of, cases_of, IsOut}
use Rattle.px_explore.specs.Thinned.{Thins, IsThinned, IsThinnedTo, IsOpenFork, IsLeft}
use Rattle.px_explore.specs.BranchPoints.{left_of, AreForks}
use Rattle.px_explore.specs.Visits.{WalkedTo, derivations_in, Counts, IsOpened, IsTakenUp, IsGone, IsVisited}
use Rattle.px_explore.proofs.PathLemmas.{prefixes_more, are_prefixes}
use Rattle.px_explore.proofs.OwnLemmas.{none_found, own_after, own_more}
use Rattle.px_explore.proofs.StopLemmas.{fork_next}
use Rattle.px_explore.proofs.ThinLemmas.{thins_self, thins_same, thins_append, fork_thins, left_of_fork}
use Rattle.px_explore.proofs.BranchLemmas.{left_push, forks_push}

-- ---- what isn't live

-- neither is anything after it
none_live : (j : JobTree) (steps : List Step) (stop : Stop) → ForksRightly j stop → ¬ IsLive j.kinds (prefix_of stop) →
    Each (IsNotLive j.kinds) (prefixes_in (path_of steps stop ∷ extensions_of j stop))
none_live j steps (S.Dead s) k h = (h, tt)
none_live j steps (S.Choice f) k h =
    let w = walk_of f.walk in
    subst (Each (IsNotLive j.kinds)) (sym (are_prefixes j f.steps (Next w)) ∙ ap prefixes_in (fork_next j f.steps w f.ways.items k.listed k.some)) (out_reached j (Next w) k.reached h)
none_live j steps (S.Ended s exit result) k h = (h, tt)
none_live j steps (S.Dropped s gap) k h = (h, tt)
none_live j steps (S.Past s) k h = (h, tt)

no_extensions : (j : JobTree) (stop : Stop) → IsLast stop → extensions_of j stop ≡ []
no_extensions j (S.Dead s) h = refl
no_extensions j (S.Choice f) h = absurd h
no_extensions j (S.Ended s exit result) h = refl
no_extensions j (S.Dropped s gap) h = refl
no_extensions j (S.Past s) h = refl

-- ---- thinned

-- what a stop gives, where a point of choice is thinned
abbrev pub IsThinlyWeighed : JobTree → Stop → Weighed → Type 0
IsThinlyWeighed j stop W.Out = ¬ IsLive j.kinds (prefix_of stop)
IsThinlyWeighed j stop (W.Open g) = (f : Fork) × (stop ≡ S.Choice f) × IsFork j f × IsThinned j f g × IsLiveAs j stop Row.Nothing 0
IsThinlyWeighed j stop W.Past = IsLast stop × IsLiveAs j stop Row.Nothing 0
IsThinlyWeighed j stop (W.Gives x) = IsLast stop × IsLiveAs j stop (Row.Gives x) 1
IsThinlyWeighed j stop (W.Misses gap) = IsLast stop × IsLiveAs j stop (Row.Misses gap) 1

thinly_weighed : (j : JobTree) (stop : Stop) (w v : Weighed) → ForksRightly j stop → IsWeighed j stop w → IsThinnedTo j w v → IsThinlyWeighed j stop v
thinly_weighed j stop W.Out v k h t = subst (IsThinlyWeighed j stop) (sym t) h
thinly_weighed j stop (W.Open f) v k h (g, e, t) = subst (IsThinlyWeighed j stop) (sym e) (f, h.0, subst (ForksRightly j) h.0 k, t, h.1)
thinly_weighed j stop W.Past v k h t = subst (IsThinlyWeighed j stop) (sym t) h
thinly_weighed j stop (W.Gives x) v k h t = subst (IsThinlyWeighed j stop) (sym t) h
thinly_weighed j stop (W.Misses gap) v k h t = subst (IsThinlyWeighed j stop) (sym t) h

pub open_fork : (j : JobTree) (stop : Stop) (w : Weighed) → ForksRightly j stop → IsWeighed j stop w → IsOpenFork j w
open_fork j stop W.Out k h = tt
open_fork j stop (W.Open f) k h = record { fork = subst (ForksRightly j) h.0 k; live = subst (λ z. IsLive j.kinds (prefix_of z)) h.0 h.1.live }
open_fork j stop W.Past k h = tt
open_fork j stop (W.Gives x) k h = tt
open_fork j stop (W.Misses gap) k h = tt

-- ---- what is live

live_as : (j : JobTree) (stop : Stop) (w : Weighed) → ¬ IsOut w → IsThinlyWeighed j stop w → IsLiveAs j stop (row_of w) (cases_of w)
live_as j stop W.Out n w = absurd (n tt)
live_as j stop (W.Open g) n (f, e, k, t, l) = l
live_as j stop W.Past n w = w.1
live_as j stop (W.Gives x) n w = w.1
live_as j stop (W.Misses gap) n w = w.1

-- where it isn't a point of choice, its steps are those so far
last_steps : (stop : Stop) (steps : List Step) → IsLast stop → steps_at steps stop ≡ steps
last_steps (S.Dead s) steps h = refl
last_steps (S.Choice f) steps h = absurd h
last_steps (S.Ended s exit result) steps h = refl
last_steps (S.Dropped s gap) steps h = refl
last_steps (S.Past s) steps h = refl

by_own_steps : (j : JobTree) (stop : Stop) (w : Weighed) (steps : List Step) → IsThinlyWeighed j stop w → derivations_in (row_of w) (steps_at steps stop) ≡ derivations_in (row_of w) steps
by_own_steps j stop W.Out steps h = refl
by_own_steps j stop (W.Open f) steps h = refl
by_own_steps j stop W.Past steps h = refl
by_own_steps j stop (W.Gives x) steps h = ap (derivations_in (row_of (W.Gives x))) (last_steps stop steps h.0)
by_own_steps j stop (W.Misses gap) steps h = refl

walked_counted : (j : JobTree) (before : List Path) (steps : List Step) (stop : Stop) (row : Row) (cases : ℕ) (old new : SearchResult) → IsLiveAs j stop row cases →
    derivations_in row (steps_at steps stop) ≡ derivations_in row steps → Counts j old new steps row cases → WalkedTo j before old → WalkedTo j (before ++ path_of steps stop ∷ []) new
walked_counted j before steps stop row cases old new l e c w =
    let p = prefix_of stop in
    let here = path_of steps stop in
    let few : length w.seen < j.limits.nodes = omega (arith, c.room, w.live) in
    let known : old.ended ≤ j.limits.paths = omega (arith, w.ended, w.walked.few_ended) in
    let more = c.room_for_case known in
    let room : ended_cases w.seen + ended_case p ≤ j.limits.paths = omega (arith, more, w.ended, l.cases_are) in
    let longer : length (w.seen ++ p ∷ []) ≡ length w.seen + 1 = length-append w.seen (p ∷ []) in
    let ended = ended_more w.seen p in record {
      seen = w.seen ++ p ∷ [];
      walked = subst (λ z. Walked j (prefixes_in (before ++ here ∷ [])) (w.seen ++ p ∷ []) z new.drops) (sym c.entries)
          (subst (λ z. Walked j (prefixes_in (before ++ here ∷ [])) (w.seen ++ p ∷ []) (old.entries ++ entries_in row) z) (sym c.drops)
          (subst (λ z. Walked j z (w.seen ++ p ∷ []) (old.entries ++ entries_in row) (old.drops ++ drops_in row)) (sym (prefixes_more before (here ∷ [])))
          (walked_live j (prefixes_in before) w.seen p row old.entries old.drops l.live l.row_is few room w.walked)));
      own = subst (λ z. AreOwnOf j (before ++ here ∷ []) z new.derivations) (sym c.entries)
          (subst (AreOwnOf j (before ++ here ∷ []) (old.entries ++ entries_in row)) (sym (c.derivations ∙ ap (λ z. old.derivations ++ z) (sym e)))
          (own_more j before here row old.entries old.derivations l.row_is w.own));
      live = omega (arith, c.live, w.live, longer);
      ended = omega (arith, c.ended, w.ended, ended, l.cases_are);
    }

-- what is left after it
to_come : (j : JobTree) (stop : Stop) (w : Weighed) (held : ℕ) (fs fs' : List BranchPoint) → ¬ IsOut w → IsThinlyWeighed j stop w → IsOpened held fs fs' w →
    Thins (IsGone j) (extensions_of j stop ++ left_of j fs) (left_of j fs')
to_come j stop W.Out held fs fs' n w o = absurd (n tt)
to_come j stop (W.Open g) held fs fs' n (f, e, k, t, l) o =
    let left : List Path = extensions j g.steps (walk_of g.walk) g.ways.items in
    subst (λ z. Thins (IsGone j) (z ++ left_of j fs) (left_of j fs')) (sym (ap (extensions_of j) e))
    (subst (Thins (IsGone j) (extensions j f.steps (walk_of f.walk) f.ways.items ++ left_of j fs)) (sym (left_is o))
    (thins_append (IsGone j) (extensions j f.steps (walk_of f.walk) f.ways.items) left (left_of j fs) (left_of j fs) (fork_thins j f g k t) (thins_self (IsGone j) (left_of j fs))))
  where
    left_is : IsOpened held fs fs' (W.Open g) → left_of j fs' ≡ extensions j g.steps (walk_of g.walk) g.ways.items ++ left_of j fs
    left_is (inl (b, e, z, m, a)) =
        ap (left_of j) a ∙ left_push j fs b
        ∙ ap (λ x. x ++ left_of j fs)
        (ap (λ (x : Fork). extensions j x.steps (walk_of x.walk) (drop b.next x.ways.items)) e ∙ ap (λ x. extensions j g.steps (walk_of g.walk) (drop x g.ways.items)) z)
    left_is (inr (none, a)) = ap (left_of j) a ∙ ap (λ x. extensions j g.steps (walk_of g.walk) x ++ left_of j fs) (sym none)
to_come j stop W.Past held fs fs' n w o = thins_same (IsGone j) (extensions_of j stop ++ left_of j fs) (left_of j fs') (ap (λ x. x ++ left_of j fs) (no_extensions j stop w.0) ∙ ap (left_of j) (sym o))
to_come j stop (W.Gives x) held fs fs' n w o = thins_same (IsGone j) (extensions_of j stop ++ left_of j fs) (left_of j fs') (ap (λ x. x ++ left_of j fs) (no_extensions j stop w.0) ∙ ap (left_of j) (sym o))
to_come j stop (W.Misses gap) held fs fs' n w o = thins_same (IsGone j) (extensions_of j stop ++ left_of j fs) (left_of j fs') (ap (λ x. x ++ left_of j fs) (no_extensions j stop w.0) ∙ ap (left_of j) (sym o))

opened_forks : (j : JobTree) (stop : Stop) (w : Weighed) (held : ℕ) (fs fs' : List BranchPoint) → IsThinlyWeighed j stop w → IsOpened held fs fs' w → AreForks j fs → AreForks j fs'
opened_forks j stop W.Out held fs fs' w o h = subst (AreForks j) (sym o) h
opened_forks j stop (W.Open g) held fs fs' (f, e, k, t, l) (inl (b, i, z, m, a)) h = subst (AreForks j) (sym a) (forks_push j fs b h (subst (IsLeft j) (sym i) (left_of_fork j f g k t)))
opened_forks j stop (W.Open g) held fs fs' (f, e, k, t, l) (inr (none, a)) h = subst (AreForks j) (sym a) h
opened_forks j stop W.Past held fs fs' w o h = subst (AreForks j) (sym o) h
opened_forks j stop (W.Gives x) held fs fs' w o h = subst (AreForks j) (sym o) h
opened_forks j stop (W.Misses gap) held fs fs' w o h = subst (AreForks j) (sym o) h

-- ---- visits

kept_walk : (j : JobTree) (before ps : List Path) (old : SearchResult) → Each (IsNotLive j.kinds) (prefixes_in ps) → WalkedTo j before old → WalkedTo j (before ++ ps) old
kept_walk j before ps old n w = record {
  seen = w.seen;
  walked = subst (λ z. Walked j z w.seen old.entries old.drops) (sym (prefixes_more before ps)) (walked_none j (prefixes_in before) w.seen (prefixes_in ps) old.entries old.drops n w.walked);
  own = own_after j before ps old.entries old.derivations (none_found j ps n) w.own;
  live = w.live;
  ended = w.ended;
}

visited_out : (j : JobTree) (ps : List Path) (steps : List Step) (stop : Stop) (w : Weighed) (held : ℕ) (old new : SearchResult) (fs fs' : List BranchPoint) → IsStop j ps steps stop → IsThinlyWeighed j stop w → IsOpened held fs fs' w →
    IsOut w → new ≡ old → IsVisited j ps old new fs fs' None
visited_out j ps steps stop W.Out held old new fs fs' r w o i e = (
  ps,
  subst (λ z. 0 < length z) (sym r.is) (omega arith),
  thins_same (IsGone j) (ps ++ left_of j fs) (ps ++ left_of j fs') (ap (λ z. ps ++ left_of j z) (sym o)),
  opened_forks j stop W.Out held fs fs' w o,
  λ before k. subst (WalkedTo j (before ++ ps)) (sym e)
      (kept_walk j before ps old (subst (λ z. Each (IsNotLive j.kinds) (prefixes_in z)) (sym r.is) (none_live j steps stop r.forks w)) k),
)
visited_out j ps steps stop (W.Open f) held old new fs fs' r w o i e = absurd i
visited_out j ps steps stop W.Past held old new fs fs' r w o i e = absurd i
visited_out j ps steps stop (W.Gives x) held old new fs fs' r w o i e = absurd i
visited_out j ps steps stop (W.Misses gap) held old new fs fs' r w o i e = absurd i

visited_live : (j : JobTree) (ps : List Path) (steps : List Step) (stop : Stop) (w : Weighed) (held : ℕ) (old new : SearchResult) (fs fs' : List BranchPoint) → IsStop j ps steps stop → IsThinlyWeighed j stop w →
    IsOpened held fs fs' w → ¬ IsOut w → Counts j old new steps (row_of w) (cases_of w) → IsVisited j ps old new fs fs' None
visited_live j ps steps stop w held old new fs fs' r h o n c = (
  path_of steps stop ∷ [],
  omega arith,
  subst (λ z. Thins (IsGone j) (z ++ left_of j fs) (path_of steps stop ∷ left_of j fs')) (sym r.is) (inl (left_of j fs', refl, to_come j stop w held fs fs' n h o)),
  opened_forks j stop w held fs fs' h o,
  λ before k. walked_counted j before steps stop (row_of w) (cases_of w) old new (live_as j stop w n h) (by_own_steps j stop w steps h) c k,
)

pub visited : (j : JobTree) (ps : List Path) (steps : List Step) (stop : Stop) (w v : Weighed) (held : ℕ) (old new : SearchResult) (fs fs' : List BranchPoint) (end : Option Cause) →
    IsStop j ps steps stop → IsWeighed j stop w → IsThinnedTo j w v → IsTakenUp j v steps held old new fs fs' end → IsVisited j ps old new fs fs' end
visited j ps steps stop w v held old new fs fs' end r h t u = by end (thinly_weighed j stop w v r.forks h t) u
  where
    by : (end : Option Cause) → IsThinlyWeighed j stop v → IsTakenUp j v steps held old new fs fs' end → IsVisited j ps old new fs fs' end
    by None h (o, inl (i, e)) = visited_out j ps steps stop v held old new fs fs' r h o i e
    by None h (o, inr (n, c)) = visited_live j ps steps stop v held old new fs fs' r h o n c
    by (Some why) h (n, e, p, f) =
        let l = live_as j stop v n h in
        (path_of steps stop, extensions_of j stop, r.is, e, record { live = l.live; end = λ seen a b. f seen (prefix_of stop) a b l.cases_are })

-- ---- what is taken up

-- a live prefix without a row
pub counts_nothing : (j : JobTree) (old new : SearchResult) (steps : List Step) → old.live < j.limits.nodes → new.live ≡ old.live + 1 → new.ended ≡ old.ended → new.entries ≡ old.entries →
    new.derivations ≡ old.derivations → new.drops ≡ old.drops → Counts j old new steps Row.Nothing 0
counts_nothing j old new steps h l e x y d = record {
  room = h;
  room_for_case = λ k. omega arith;
  live = l;
  ended = omega (arith, e);
  entries = x ∙ sym (append-nil old.entries);
  derivations = y ∙ sym (append-nil old.derivations);
  drops = d ∙ sym (append-nil old.drops);
}

pub taken_open : (j : JobTree) (w : Weighed) (steps : List Step) (held : ℕ) (fork : Fork) (old new : SearchResult) (points points' : List BranchPoint) → w ≡ W.Open fork →
    IsOpened held points points' (W.Open fork) → Counts j old new steps Row.Nothing 0 → IsTakenUp j w steps held old new points points' None
taken_open j w steps held fork old new points points' e o c = subst (λ z. IsTakenUp j z steps held old new points points' None) (sym e) (o, inr (λ k. k, c))
