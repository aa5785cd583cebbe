-- What the whole search keeps, and the table that it ends with.
use Rattle.std.proofs.Common.{◌≡◌, ◌+◌, ◌<◌, ◌≤◌, List, [], ◌∷◌, ◌++◌, length, refl, sym, ◌∙◌, ap, subst, arith, append-nil, append_assoc, length-append, Option, Some, None}
use Rattle.px_entry.specs.declared.derivations.Step.{Step}
use Rattle.px_entry.specs.declared.tables.Cause.{Cause}
use Rattle.px_callgraph.specs.JobTree.{JobTree}
use Rattle.px_callgraph.specs.declared.outcomes.StepOutcome.TheVariants.{Next}
use Rattle.px_callgraph.specs.Alternatives.{Walk, Leads, start}
use Rattle.px_symexec.specs.Prefixes.{prefixes_of}
use Rattle.px_symexec.specs.Tables.{Walked}
use Rattle.px_symexec.proofs.TableLemmas.{walked_start}
use Rattle.px_explore.specs.declared.branch_points.BranchPoint.{BranchPoint}
use Rattle.px_explore.specs.declared.results.SearchResult.{SearchResult}
use Rattle.px_explore.specs.declared.results.Counted.{Counted}
use Rattle.px_explore.specs.Stands.{Stands}
use Rattle.px_explore.specs.Paths.{Path, prefixes_in, paths, paths_of}
use Rattle.px_explore.specs.Own.{AreOwnOf, AreOwn}
use Rattle.px_explore.specs.BranchPoints.{left_of, AreForks, IsAdvanced}
use Rattle.px_explore.specs.Thinned.{Thins}
use Rattle.px_explore.specs.Visits.{IsEmpty, WalkedTo, IsGone, IsVisited, IsEndAt, IsDone, last_of, IsFinished}
use Rattle.px_explore.specs.Counts.{IsCounted}
use Rattle.px_explore.proofs.StandLemmas.{stands_start}
use Rattle.px_explore.proofs.PathLemmas.{prefixes_more, paths_are_prefixes}
use Rattle.px_explore.proofs.OwnLemmas.{own_none}
use Rattle.px_explore.proofs.DerivedLemmas.{own_derive}
use Rattle.px_explore.proofs.ThinLemmas.{thins_self, thins_same, thins_trans, thins_append, thins_less, thins_split, walked_thins}
use Rattle.px_explore.proofs.BranchLemmas.{left_push, forks_pop}

-- All paths are those that were seen, those after where a way led, and those that are left at points of choice, but for some
-- that aren't live.
pub record IsUnderWay (j : JobTree) (steps : List Step) (a : Leads) (points : List BranchPoint) (f : SearchResult) : Type 0 where
  pub stands : Stands j a
  pub forks : AreForks j points
  pub before : List Path
  pub split : Thins (IsGone j) (paths_of j) (before ++ (paths j steps a ++ left_of j points))
  pub walked : WalkedTo j before f

begun : (j : JobTree) (f : SearchResult) → IsEmpty f → WalkedTo j [] f
begun j f e = record {
  seen = [];
  walked = subst (λ z. Walked j [] [] z f.drops) (sym e.entries) (subst (λ z. Walked j [] [] [] z) (sym e.drops) (walked_start j));
  own = subst (λ z. AreOwnOf j [] z f.derivations) (sym e.entries) (subst (AreOwnOf j [] []) (sym e.derivations) (own_none j));
  live = e.live;
  ended = e.ended;
}

pub sets_out : (j : JobTree) (steps : List Step) (w : Walk) (a : Leads) (points : List BranchPoint) (f : SearchResult) → length j.body.parameters ≤ 8192 → steps ≡ [] → w ≡ start j → a ≡ Next w → points ≡ [] →
    IsEmpty f → IsUnderWay j steps a points f
sets_out j steps w a points f l t e i p n = record {
  stands = subst (Stands j) (sym i) (stands_start j w l e);
  forks = subst (AreForks j) (sym p) tt;
  before = [];
  split = thins_same (IsGone j) (paths_of j) (paths j steps a ++ left_of j points)
      (sym (append-nil (paths_of j)) ∙ ap (λ z. paths j z (Next (start j)) ++ []) (sym t) ∙ ap (λ z. paths j steps (Next z) ++ []) (sym e) ∙ ap (λ z. paths j steps z ++ []) (sym i)
      ∙ ap (λ z. paths j steps a ++ left_of j z) (sym p));
  walked = begun j f n;
}

-- after a visit the next way of the last point of choice is taken
next_left : (j : JobTree) (steps : List Step) (b : Leads) (fs rest new : List BranchPoint) (f : BranchPoint) → fs ≡ rest ++ f ∷ [] → IsAdvanced j f rest new steps b →
    paths j steps b ++ left_of j new ≡ left_of j fs
next_left j steps b fs rest new f p a = a.left ∙ sym (ap (left_of j) p ∙ left_push j rest f)

-- of those that come after, some more that aren't live are gone
seen_more : (j : JobTree) (before left rest : List Path) → Thins (IsGone j) (paths_of j) (before ++ left) → Thins (IsGone j) left rest → Thins (IsGone j) (paths_of j) (before ++ rest)
seen_more j before left rest t u =
    thins_trans (IsGone j) (paths_of j) (before ++ left) (before ++ rest) t (thins_append (IsGone j) before before left rest (thins_self (IsGone j) before) u)

pub goes_on : (j : JobTree) (so_far steps : List Step) (a b : Leads) (points fs rest new : List BranchPoint) (f : BranchPoint) (old found : SearchResult) (end : Option Cause) → end ≡ None →
    IsVisited j (paths j so_far a) old found points fs end → fs ≡ rest ++ f ∷ [] → IsAdvanced j f rest new steps b → IsUnderWay j so_far a points old → IsUnderWay j steps b new found
goes_on j so_far steps a b points fs rest new f old found end n v p d u =
    let (seen, l, q, k, m) = subst (IsVisited j (paths j so_far a) old found points fs) n v in
    let e = next_left j steps b fs rest new f p d in record {
      stands = d.stands;
      forks = d.forks (forks_pop j rest f (subst (AreForks j) p (k u.forks))).1;
      before = u.before ++ seen;
      split = subst (Thins (IsGone j) (paths_of j)) (ap (λ z. u.before ++ (seen ++ z)) (sym e) ∙ sym (append_assoc u.before seen (paths j steps b ++ left_of j new)))
          (seen_more j u.before (paths j so_far a ++ left_of j points) (seen ++ left_of j fs) u.split q);
      walked = m u.before u.walked;
    }

pub fewer : (j : JobTree) (so_far steps : List Step) (a b : Leads) (points fs rest new : List BranchPoint) (f : BranchPoint) (old found : SearchResult) (end : Option Cause) → end ≡ None →
    IsVisited j (paths j so_far a) old found points fs end → fs ≡ rest ++ f ∷ [] → IsAdvanced j f rest new steps b →
    length (paths j steps b ++ left_of j new) < length (paths j so_far a ++ left_of j points)
fewer j so_far steps a b points fs rest new f old found end n v p d =
    let (seen, l, q, k, m) = subst (IsVisited j (paths j so_far a) old found points fs) n v in
    let w : length (seen ++ left_of j fs) ≤ length (paths j so_far a ++ left_of j points) = thins_less (IsGone j) (paths j so_far a ++ left_of j points) (seen ++ left_of j fs) q in
    let x : length (seen ++ left_of j fs) ≡ length seen + length (left_of j fs) = length-append seen (left_of j fs) in
    let y : length (paths j steps b ++ left_of j new) ≡ length (left_of j fs) = ap length (next_left j steps b fs rest new f p d) in
    omega (arith, w, x, y, l)

pub point_of : (j : JobTree) (steps : List Step) (a : Leads) (points fs rest : List BranchPoint) (f : BranchPoint) (old found : SearchResult) (end : Option Cause) → end ≡ None →
    IsVisited j (paths j steps a) old found points fs end → fs ≡ rest ++ f ∷ [] → IsUnderWay j steps a points old → AreForks j (rest ++ f ∷ [])
point_of j steps a points fs rest f old found end n v p u =
    let (seen, l, q, k, m) = subst (IsVisited j (paths j steps a) old found points fs) n v in subst (AreForks j) p (k u.forks)

-- nothing is left
pub done_all : (j : JobTree) (steps : List Step) (a : Leads) (points fs : List BranchPoint) (old found : SearchResult) (end : Option Cause) → end ≡ None → IsVisited j (paths j steps a) old found points fs end → fs ≡ [] →
    IsUnderWay j steps a points old → IsDone j found None
done_all j steps a points fs old found end n v p u =
    let (seen, l, q, k, m) = subst (IsVisited j (paths j steps a) old found points fs) n v in
    let all : Thins (IsGone j) (paths_of j) (u.before ++ seen) =
    subst (λ z. Thins (IsGone j) (paths_of j) (u.before ++ z)) (ap (λ z. seen ++ left_of j z) p ∙ append-nil seen) (seen_more j u.before (paths j steps a ++ left_of j points) (seen ++ left_of j fs) u.split q) in
    walked_thins j (paths_of j) (u.before ++ seen) found all (m u.before u.walked)

-- the first path after is the end
pub done_end : (j : JobTree) (steps : List Step) (a : Leads) (points fs : List BranchPoint) (old found : SearchResult) (end : Option Cause) (why : Cause) → end ≡ Some why →
    IsVisited j (paths j steps a) old found points fs end → IsUnderWay j steps a points old → IsDone j found (Some why)
done_end j steps a points fs old found end why n v u =
    let (p, more, e, s, i) = subst (IsVisited j (paths j steps a) old found points fs) n v in
    let t = thins_split (IsGone j) (paths_of j) u.before p (more ++ left_of j points) (subst (λ z. Thins (IsGone j) (paths_of j) (u.before ++ (z ++ left_of j points))) e u.split) in
    (t.before, p, t.after, t.is, walked_thins j t.before u.before found t.thins (subst (WalkedTo j u.before) (sym s) u.walked), subst (λ z. IsEndAt j z p.prefix why) (sym s) i)

-- ---- the table

met : (j : JobTree) (before : List Path) (f : SearchResult) (c : Counted) → c.table.entries ≡ f.entries → (w : WalkedTo j before f) → Walked j (prefixes_in before) w.seen c.table.entries f.drops
met j before f c e w = subst (λ z. Walked j (prefixes_in before) w.seen z f.drops) (sym e) w.walked

own_of : (j : JobTree) (before rest : List Path) (f : SearchResult) (c : Counted) → paths_of j ≡ before ++ rest → c.table.entries ≡ f.entries → c.derivations ≡ f.derivations →
    AreOwnOf j before f.entries f.derivations → AreOwn j c.table.entries c.derivations
own_of j before rest f c s e d h =
    record { before = before; rest = rest; split = s; own = subst (λ z. AreOwnOf j before z c.derivations) (sym e) (subst (AreOwnOf j before f.entries) (sym d) h) }

split_of : (j : JobTree) (before rest : List Path) → paths_of j ≡ before ++ rest → prefixes_of j ≡ prefixes_in before ++ prefixes_in rest
split_of j before rest s = sym (paths_are_prefixes j) ∙ ap prefixes_in s ∙ prefixes_more before rest

pub table_of : (j : JobTree) (f : SearchResult) (end : Option Cause) (c : Counted) → IsDone j f end → IsFinished f end c → IsCounted j c
table_of j f None c w n =
    let s : paths_of j ≡ paths_of j ++ [] = sym (append-nil (paths_of j)) in
    let own = own_of j (paths_of j) [] f c s n.entries n.derivations w.own in record {
      table = record {
        before = prefixes_in (paths_of j);
        rest = [];
        split = split_of j (paths_of j) [] s;
        live = w.seen;
        met = f.drops;
        walked = met j (paths_of j) f c n.entries w;
        last = [];
        stops = refl;
        drops_are = n.drops;
      };
      own = own;
      derived = own_derive j c.table.entries c.derivations own;
      live = n.live ∙ ap (λ z. z + 0) w.live;
    }
table_of j f (Some why) c (before, p, rest, e, w, l) n =
    let own = own_of j before (p ∷ rest) f c e n.entries n.derivations w.own in record {
      table = record {
        before = prefixes_in before;
        rest = prefixes_in (p ∷ rest);
        split = split_of j before (p ∷ rest) e;
        live = w.seen;
        met = f.drops;
        walked = met j before f c n.entries w;
        last = last_of (Some why);
        stops = (l.live, why, l.end w.seen w.live w.ended, refl);
        drops_are = n.drops;
      };
      own = own;
      derived = own_derive j c.table.entries c.derivations own;
      live = n.live ∙ ap (λ z. z + 1) w.live;
    }
