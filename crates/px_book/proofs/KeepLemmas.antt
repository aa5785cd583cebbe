-- The fields of a book keep what they must.
use Rattle.std.proofs.Common.{◌≡◌, ℕ, ◌+◌, ◌<◌, ◌≤◌, Bool, true, false, cond, List, [], length, replicate, set, Option, Some, None, refl, sym, ap, subst, ◌∙◌, ◌⊎◌, inl, inr, arith}
use Rattle.std.specs.Prelude.{slice_get}
use Rattle.std.proofs.lemmas.List.{length-replicate}
use Rattle.std.proofs.lemmas.Option.{slice_get_within, none-some}
use Rattle.px_base.specs.declared.trace.ProcId.{ProcId}
use Rattle.px_entry.specs.declared.tables.Gap.{Gap}
use Rattle.px_entry.specs.declared.tables.Table.{Table}
use Rattle.px_core.specs.BodyTree.{BodyTree}
use Rattle.px_callgraph.specs.JobTree.{JobTree, job_tree}
use Rattle.px_callgraph.specs.CallGraphs.{bodies_in, IsGraphOf}
use Rattle.px_check.specs.declared.checked.Checked.{Checked}
use Rattle.px_pieces.specs.declared.desk.Who.{Who}
use Rattle.px_pieces.specs.declared.desk.Lost.{Lost}
use Rattle.px_pieces.specs.declared.desk.Event.TheVariants.{Claim, Publish, Lose}
use Rattle.px_pieces.specs.declared.desk.Status.{Status}
use Rattle.px_pieces.specs.declared.desk.Status.TheVariants.{Waiting, Held, Settled}
use Rattle.px_pieces.specs.declared.findings.Part.{Part}
use Rattle.px_pieces.specs.declared.findings.Part.TheVariants.{Tabled, LeftOut}
use Rattle.px_pieces.specs.Desk.{is_of_desk, Statuses, IsHeldUnder, IsSettled, MayCome}
use Rattle.px_pieces.specs.Histories.{publications}
use Rattle.px_pieces.specs.Pieces.{PieceParts, AreOf, IsToldBy, table_from}
use Rattle.px_book.specs.Rolls.{RollParts, desk_of, statuses_of, roll_after, IsNext}
use Rattle.px_book.proofs.Histories.{on_desk}
use Rattle.px_book.proofs.Settled.{more_left, one_publication, no_claim_counts, no_loss_counts}
use Rattle.px_jobs.specs.Sources.{SourceParts}
use Rattle.px_book.specs.Books.{BookParts, new_book, roll_in, its_desk, statuses_in, IsDue}
use Rattle.px_book.specs.Soundness.{IsSound}
use Rattle.px_book.specs.Keeping.{book_of, IsKept}
use Rattle.px_book.proofs.Places.{replicated}
use Rattle.px_book.proofs.SoundLemmas.{tabled}
use Rattle.px_book.proofs.EventLemmas.{sound_claim, sound_loss}
use Rattle.px_book.proofs.PublishLemmas.{sound_published}

-- ---- the start

never_started : (b : Bool) (t : ℕ) (w : Who) → cond b (Some (Waiting 0)) None ≡ Some (Settled t w) → ⊥
never_started true t w e = cc
never_started false t w e = cc

sound_new : (says : JobTree → Table → Type 0) (sources : SourceParts) (graph : List (List ℕ)) → IsGraphOf (bodies_in sources.bodies) graph → length sources.bodies ≡ length graph → IsSound says (new_book sources graph)
sound_new says sources graph is many = record {
  graph = is;
  bodies = many;
  size = length-replicate (length graph) LeftOut;
  legal = λ n e q. absurd (none-some e q);
  settled = λ f t who e. absurd (never_started (is_of_desk (its_desk (new_book sources graph)) f) t who e);
  others = λ f l n. replicated (length graph) f LeftOut (subst (λ z. f < z) (length-replicate (length graph) LeftOut) l);
}

pub kept_new : (says : JobTree → Table → Type 0) (sources : SourceParts) (roll : RollParts) (parts : List Part) (total amount left : ℕ) → IsGraphOf (bodies_in sources.bodies) roll.graph →
    length sources.bodies ≡ length roll.graph → roll.out ≡ sources.out → roll.history ≡ [] → parts ≡ replicate (length roll.graph) LeftOut → total ≡ 0 → amount ≡ 0 → length roll.graph < left →
    IsKept says sources roll parts total amount left
kept_new says sources roll parts total amount left is many out none empty zero nothing enough = record {
  sound = subst (λ h. IsSound says (record { sources = sources; graph = roll.graph; history = h; parts = parts })) (sym none)
      (subst (λ z. IsSound says (record { sources = sources; graph = roll.graph; history = []; parts = z })) (sym empty) (sound_new says sources roll.graph is many));
  out = out;
  counted = zero ∙ sym (ap publications none);
  spent = nothing;
  enough = subst (λ z. length roll.graph < left + z) (sym (ap publications none)) (let z : length roll.graph < left + 0 = omega (arith, enough) in z);
}

-- a new roll and new sources of these parts
pub kept_made : (says : JobTree → Table → Type 0) (made sources : SourceParts) (graph : List (List ℕ)) (places : List ProcId) (roll : RollParts) (parts : List Part) (total amount left kept : ℕ) →
    roll ≡ record { graph = graph; out = places; history = [] } → sources ≡ made → places ≡ made.out → parts ≡ replicate kept LeftOut → length made.bodies ≡ kept → length graph ≡ kept →
    IsGraphOf (bodies_in made.bodies) graph → total ≡ 0 → amount ≡ 0 → kept < left → IsKept says sources roll parts total amount left
kept_made says made sources graph places roll parts total amount left kept r s same empty many size is zero nothing enough =
    let g : roll.graph ≡ graph = ap (λ (z : RollParts). z.graph) r in
    let bodies : sources.bodies ≡ made.bodies = ap (λ (z : SourceParts). z.bodies) s in
    let all : length roll.graph ≡ kept = ap length g ∙ size in
    kept_new says sources roll parts total amount left
    (subst (λ z. IsGraphOf (bodies_in z) roll.graph) (sym bodies) (subst (IsGraphOf (bodies_in made.bodies)) (sym g) is))
    (ap length bodies ∙ many ∙ sym all)
    (ap (λ (z : RollParts). z.out) r ∙ same ∙ sym (ap (λ (z : SourceParts). z.out) s))
    (ap (λ (z : RollParts). z.history) r)
    (empty ∙ ap (λ n. replicate n LeftOut) (sym all)) zero nothing (subst (λ n. n < left) (sym all) enough)

-- ---- the roll and the book say the same

pub roll_is : (sources : SourceParts) (roll : RollParts) (parts : List Part) → roll.out ≡ sources.out → roll ≡ roll_in (book_of sources roll parts)
roll_is sources roll parts e = let r : List ProcId → RollParts = λ o. record { graph = roll.graph; out = o; history = roll.history } in ap r e

module _ (says : JobTree → Table → Type 0) (sources : SourceParts) (roll : RollParts) (parts : List Part) (total amount left : ℕ) (k : IsKept says sources roll parts total amount left) where
  abbrev b : BookParts
  b = book_of sources roll parts

  pub same_roll : roll ≡ roll_in b
  same_roll = roll_is sources roll parts k.out

  pub same_status : (f : ℕ) → statuses_of roll f ≡ statuses_in b f
  same_status f = ap (λ (r : RollParts). statuses_of r f) same_roll

  pub next_in_book : (who : Who) (o : Option ProcId) → ((bodies : ℕ → Option BodyTree) → IsGraphOf bodies roll.graph → IsNext (desk_of bodies roll) (statuses_of roll) who o) →
      IsNext (its_desk b) (statuses_in b) who o
  next_in_book who o h = subst (λ (r : RollParts). IsNext (desk_of (bodies_in sources.bodies) r) (statuses_of r) who o) same_roll (h (bodies_in sources.bodies) k.sound.graph)

  pub held_in_book : (under f : ℕ) → IsHeldUnder (statuses_of roll) under f → IsHeldUnder (statuses_in b) under f
  held_in_book under f = subst (λ (r : RollParts). IsHeldUnder (statuses_of r) under f) same_roll

  pub held_on_roll : (under f : ℕ) → IsHeldUnder (statuses_in b) under f → IsHeldUnder (statuses_of roll) under f
  held_on_roll under f = subst (λ (r : RollParts). IsHeldUnder (statuses_of r) under f) (sym same_roll)

  -- ---- after an event

  pub kept_claim : (who : Who) (p : ProcId) (new : RollParts) → MayCome (its_desk b) (statuses_in b) (Claim who p) → new ≡ roll_after roll (Claim who p) → IsKept says sources new parts total amount left
  kept_claim who p new may e = subst (λ (r : RollParts). IsKept says sources r parts total amount left) (sym e) (record {
    sound = sound_claim says b k.sound who p may;
    out = k.out;
    counted = k.counted ∙ sym (no_claim_counts roll.history who p);
    spent = k.spent;
    enough = subst (λ z. length roll.graph < left + z) (sym (no_claim_counts roll.history who p)) k.enough;
  })

  pub kept_loss : (under : ℕ) (why : Lost) (f : ℕ) (new : RollParts) → IsHeldUnder (statuses_in b) under f → new ≡ roll_after roll (Lose under why) → IsKept says sources new parts total amount left
  kept_loss under why f new held e = subst (λ (r : RollParts). IsKept says sources r parts total amount left) (sym e) (record {
    sound = sound_loss says b k.sound under why f held;
    out = k.out;
    counted = k.counted ∙ sym (no_loss_counts roll.history under why);
    spent = k.spent;
    enough = subst (λ z. length roll.graph < left + z) (sym (no_loss_counts roll.history under why)) k.enough;
  })

  -- a part of the ledger is left for what is held, and one more
  pub room : (under f : ℕ) → IsHeldUnder (statuses_in b) under f → 1 < left
  room under f held =
      let m = more_left (its_desk b) b.history under f k.sound.legal (tabled b f (on_desk (its_desk b) b.history f _ held.held)).0 held in
      let e = k.enough in
      omega (arith, m, e)

  pub kept_published : (under : ℕ) (p : PieceParts) (new : RollParts) (parts' : List Part) (total' amount' left' : ℕ) → IsDue b under (job_tree p.job) → AreOf (job_tree p.job) p.entries →
      IsToldBy says (job_tree p.job) (table_from p.entries p.drops) → new ≡ roll_after roll (Publish under) → parts' ≡ set parts p.job.proc.0 (Tabled p.entries p.drops) → total' ≡ total + 1 → amount' ≡ 0 →
      left' + 1 ≡ left → IsKept says sources new parts' total' amount' left'
  kept_published under p new parts' total' amount' left' due derived told e put more nothing fewer =
      subst (λ (r : RollParts). IsKept says sources r parts' total' amount' left') (sym e) (subst (λ z. IsKept says sources (roll_after roll (Publish under)) z total' amount' left') (sym put) (record {
        sound = sound_published says b k.sound under p due.held due.job due.ticket derived told;
        out = k.out;
        counted = more ∙ ap (λ z. z + 1) k.counted ∙ sym (one_publication roll.history under);
        spent = nothing;
        enough = subst (λ z. length roll.graph < left' + z) (sym (one_publication roll.history under)) (let q = k.enough in omega (arith, q, fewer));
      }))

-- ---- who is settled

decide : (s : Statuses) (f : ℕ) → IsSettled s f ⊎ (IsSettled s f → ⊥)
decide s f = by (s f) refl
  where
    none : (t : ℕ) (w : Who) → ◌≡◌ {A = Option Status} None (Some (Settled t w)) → ⊥
    none t w e = cc

    waits : (l t : ℕ) (w : Who) → Some (Waiting l) ≡ Some (Settled t w) → ⊥
    waits l t w e = cc

    held : (u : ℕ) (v : Who) (l t : ℕ) (w : Who) → Some (Held u v l) ≡ Some (Settled t w) → ⊥
    held u v l t w e = cc

    by : (o : Option Status) → s f ≡ o → IsSettled s f ⊎ (IsSettled s f → ⊥)
    by None e = inr (λ q. none q.ticket q.who (sym e ∙ q.settled))
    by (Some (Waiting l)) e = inr (λ q. waits l q.ticket q.who (sym e ∙ q.settled))
    by (Some (Held u v l)) e = inr (λ q. held u v l q.ticket q.who (sym e ∙ q.settled))
    by (Some (Settled u v)) e = inl (record { ticket = u; who = v; settled = e })

module _ (says : JobTree → Table → Type 0) (b : BookParts) (s : IsSound says b) where
  pub tabled_is_settled : (f : ℕ) (checked : List Checked) (drops : List Gap) → slice_get b.parts f ≡ Some (Tabled checked drops) → IsSettled (statuses_in b) f
  tabled_is_settled f checked drops e = elim (decide (statuses_in b) f) [
    | inl q ↦ q
    | inr n ↦ absurd (apart (sym (s.others f (slice_get_within b.parts f (Tabled checked drops) e) n) ∙ e))
  ]
    where
      apart : Some LeftOut ≡ Some (Tabled checked drops) → ⊥
      apart e = cc

  pub left_is_not : (f : ℕ) → slice_get b.parts f ≡ Some LeftOut → IsSettled (statuses_in b) f → ⊥
  left_is_not f e q = let a = s.settled f q.ticket q.who q.settled in apart a.checked a.drops (sym e ∙ a.part)
    where
      apart : (c : List Checked) (d : List Gap) → Some LeftOut ≡ Some (Tabled c d) → ⊥
      apart c d e = cc

  pub outside_is_not : (f : ℕ) → length b.parts ≤ f → IsSettled (statuses_in b) f → ⊥
  outside_is_not f l q =
      let a = s.settled f q.ticket q.who q.settled in
      let m = slice_get_within b.parts f (Tabled a.checked a.drops) a.part in
      let z : ⊥ = omega (arith, l, m) in z
