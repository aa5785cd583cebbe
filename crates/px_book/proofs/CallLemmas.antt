-- What the calls of a book answer, by what its parts answer.
use Rattle.std.proofs.Common.{◌≡◌, ◌↔◌, ℕ, ◌+◌, ◌<◌, get_or, Bool, true, false, true≢false, cond, List, length, set, Option, Some, None, refl, sym, ap, subst, ◌∙◌}
use Rattle.std.specs.Prelude.{slice_get}
use Rattle.std.proofs.lemmas.Option.{slice_get_read}
use Rattle.px_base.specs.declared.trace.ProcId.{ProcId}
use Rattle.px_entry.specs.declared.tables.Gap.{Gap}
use Rattle.px_entry.specs.declared.tables.Table.{Table}
use Rattle.px_core.specs.BodyTree.{BodyTree}
use Rattle.px_callgraph.specs.declared.jobs.Job.{Job}
use Rattle.px_callgraph.specs.JobTree.{JobTree, job_tree}
use Rattle.px_callgraph.specs.CallGraphs.{bodies_in, IsGraphOf}
use Rattle.px_symexec.specs.One.{IsJob}
use Rattle.px_check.specs.declared.checked.Checked.{Checked}
use Rattle.px_pieces.specs.declared.desk.Who.{Who}
use Rattle.px_pieces.specs.declared.desk.Lost.{Lost}
use Rattle.px_pieces.specs.declared.desk.Event.TheVariants.{Claim, Publish, Lose}
use Rattle.px_pieces.specs.declared.desk.Status.{Status}
use Rattle.px_pieces.specs.declared.desk.Status.TheVariants.{Held}
use Rattle.px_pieces.specs.declared.findings.Part.{Part}
use Rattle.px_pieces.specs.declared.findings.Part.TheVariants.{Tabled, LeftOut}
use Rattle.px_pieces.specs.Desk.{IsHeldUnder, IsSettled, MayCome}
use Rattle.px_pieces.specs.Pieces.{PieceParts, AreOf, IsToldBy, table_from}
use Rattle.px_book.specs.Rolls.{RollParts, desk_of, statuses_of, roll_after, IsNext, AllSettled}
use Rattle.px_book.specs.Rolls.{claimed as roll_claimed}
use Rattle.px_book.proofs.Histories.{on_desk}
use Rattle.px_jobs.specs.Plans.{tables_at, IsReady}
use Rattle.px_jobs.specs.Sources.{SourceParts, source_work}
use Rattle.px_book.specs.Books.{BookParts, work_in, roll_in, its_desk, statuses_in, with_event, IsGiven, claimed, IsDue, published}
use Rattle.px_book.specs.Keeping.{book_of, IsKept}
use Rattle.px_book.proofs.DeskLemmas.{one_next}
use Rattle.px_book.proofs.SoundLemmas.{tabled, ready, held_ready}
use Rattle.px_book.proofs.KeepLemmas.{same_roll, next_in_book, held_in_book, held_on_roll, kept_claim, kept_loss, kept_published, room, tabled_is_settled, left_is_not}
use Rattle.px_symexec.proofs.OneLemmas.{same_proc}

-- what the roll says of its next
abbrev pub Next : RollParts → Who → Option ProcId → Type 0
Next roll who o = (bodies : ℕ → Option BodyTree) → IsGraphOf bodies roll.graph → IsNext (desk_of bodies roll) (statuses_of roll) who o

-- what the sources say of a job, by a graph and parts
abbrev pub MakesJob : SourceParts → List (List ℕ) → List Part → ℕ → Job → Type 0
MakesJob sources graph parts f j =
    IsGraphOf (bodies_in sources.bodies) graph → IsReady (source_work sources (length graph)) parts f → IsJob (source_work sources (length graph)) (tables_at parts) f (job_tree j)

abbrev pub TestsJob : SourceParts → List (List ℕ) → List Part → ℕ → ℕ → Job → Type 0 → Type 0
TestsJob sources graph parts f under j says =
    IsGraphOf (bodies_in sources.bodies) graph → IsReady (source_work sources (length graph)) parts f → says ↔ (IsJob (source_work sources (length graph)) (tables_at parts) f (job_tree j) × (j.ticket ≡ under))

module _ (says : JobTree → Table → Type 0) (sources : SourceParts) (roll : RollParts) (parts : List Part) (total amount left : ℕ) (k : IsKept says sources roll parts total amount left)
    (old : BookParts) (v : book_of sources roll parts ≡ old) where
  abbrev b : BookParts
  b = book_of sources roll parts

  -- ---- claims

  next_is : (who : Who) (o : Option ProcId) → Next roll who o → IsNext (its_desk b) (statuses_in b) who o
  next_is who o h = next_in_book says sources roll parts total amount left k who o h

  pub given_none : (who : Who) (o : Option ProcId) → o ≡ None → Next roll who o → IsGiven old who None
  given_none who o e h = subst (λ (z : BookParts). IsGiven z who None) v (subst (IsNext (its_desk b) (statuses_in b) who) e (next_is who o h))

  module _ (who : Who) (p : ProcId) (o : Option ProcId) (e : o ≡ Some p) (h : Next roll who o) where
    next_some : IsNext (its_desk b) (statuses_in b) who (Some p)
    next_some = subst (IsNext (its_desk b) (statuses_in b) who) e (next_is who o h)

    pub next_inside : p.0 < length roll.graph
    next_inside = (tabled b p.0 (on_desk (its_desk b) b.history p.0 _ next_some.0.waits)).0

    -- the roll's own claim is of the same
    pub claim_is : (new : RollParts) (o2 : Option ProcId) → Next roll who o2 → new ≡ roll_claimed roll who o2 → new ≡ roll_after roll (Claim who p)
    claim_is new o2 h2 q = q ∙ ap (roll_claimed roll who) (one_next (its_desk b) (statuses_in b) who p o2 next_some (next_is who o2 h2))

    pub kept_next : (new : RollParts) → new ≡ roll_after roll (Claim who p) → IsKept says sources new parts total amount left
    kept_next new q = kept_claim says sources roll parts total amount left k who p new next_some q

    module _ (graph : List (List ℕ)) (ps : List Part) (j : Job) (at : graph ≡ roll.graph) (same : ps ≡ parts) (made : MakesJob sources graph ps p.0 j) where
      the_job : IsJob (work_in b) (tables_at b.parts) p.0 (job_tree j)
      the_job = subst (λ z. MakesJob sources roll.graph z p.0 j) same (subst (λ z. MakesJob sources z ps p.0 j) at made) k.sound.graph (ready says b k.sound p.0 next_some.0.callees)

      its_proc : j.proc ≡ p
      its_proc = same_proc j.proc p the_job.proc

      pub given_some : j.ticket ≡ length roll.history → IsGiven old who (Some j)
      given_some t = subst (λ (z : BookParts). IsGiven z who (Some j)) v (
        subst (λ z. MayCome (its_desk b) (statuses_in b) (Claim who z)) (sym its_proc) next_some,
        subst (λ z. IsJob (work_in b) (tables_at b.parts) z (job_tree j)) (sym the_job.proc) the_job,
        t,
      )

      pub claimed_is : (new : RollParts) → new ≡ roll_after roll (Claim who p) → book_of sources new parts ≡ claimed old who (Some j)
      claimed_is new q =
          ap (λ (r : RollParts). book_of sources r parts) q ∙ ap (λ z. with_event b (Claim who z)) (sym its_proc) ∙ ap (λ (z : BookParts). with_event z (Claim who j.proc)) v

  -- ---- publications

  is_in_old : (under : ℕ) (j : JobTree) (says' : Type 0) → says' ↔ IsDue b under j → says' ↔ IsDue old under j
  is_in_old under j says' w = subst (λ (z : BookParts). says' ↔ IsDue z under j) v w

  pub due_inside : (under : ℕ) (p : ProcId) (o : Option Status) (who : Who) (losses : ℕ) → o ≡ statuses_of roll p.0 → o ≡ Some (Held under who losses) → p.0 < length roll.graph
  due_inside under p o who losses at e =
      let held = held_in_book says sources roll parts total amount left k under p.0 (record { who = who; losses = losses; held = sym at ∙ e }) in
      (tabled b p.0 (on_desk (its_desk b) b.history p.0 _ held.held)).0

  -- where it is held, the sources decide
  pub due_by_job : (under given : ℕ) (j : Job) (o : Option Status) (who : Who) (losses : ℕ) (graph : List (List ℕ)) (ps : List Part) (says' : Type 0) → o ≡ statuses_of roll j.proc.0 → o ≡ Some (Held given who losses) →
      given ≡ under → graph ≡ roll.graph → ps ≡ parts → TestsJob sources graph ps j.proc.0 under j says' → says' ↔ IsDue old under (job_tree j)
  due_by_job under given j o who losses graph ps says' at e same g q t =
      let held : IsHeldUnder (statuses_in b) under j.proc.0 =
      held_in_book says sources roll parts total amount left k under j.proc.0 (record { who = who; losses = losses; held = sym at ∙ e ∙ ap (λ z. Some (Held z who losses)) same }) in
      let d = subst (λ z. TestsJob sources roll.graph z j.proc.0 under j says') q (subst (λ z. TestsJob sources z ps j.proc.0 under j says') g t) k.sound.graph (held_ready says b k.sound j.proc.0 under held) in
      is_in_old under (job_tree j) says' (λ y. (let w = d.0 y in record { held = held; job = w.0; ticket = w.1 }), λ w. d.1 (w.job, w.ticket))

  -- where another ticket holds it, or none does, nothing is due
  pub due_not : (under : ℕ) (j : Job) (o : Option Status) → o ≡ statuses_of roll j.proc.0 → ((who : Who) (losses : ℕ) → o ≡ Some (Held under who losses) → ⊥) → false ≡ true ↔ IsDue old under (job_tree j)
  due_not under j o at never = is_in_old under (job_tree j) (false ≡ true) (
    λ e. absurd (true≢false (sym e)),
    λ w. absurd (let h = held_on_roll says sources roll parts total amount left k under j.proc.0 w.held in never h.who h.losses (at ∙ h.held)),
  )

  module _ (under : ℕ) (p : PieceParts) (due : IsDue old under (job_tree p.job)) where
    pub due_here : IsDue b under (job_tree p.job)
    due_here = subst (λ (z : BookParts). IsDue z under (job_tree p.job)) (sym v) due

    -- the roll publishes it
    pub roll_publishes : (r : Bool) (new : RollParts) → (r ≡ true) ↔ IsHeldUnder (statuses_of roll) under p.job.proc.0 → new ≡ cond r (roll_after roll (Publish under)) roll → new ≡ roll_after roll (Publish under)
    roll_publishes r new t e = e ∙ ap (λ z. cond z (roll_after roll (Publish under)) roll) (t.1 (held_on_roll says sources roll parts total amount left k under p.job.proc.0 due_here.held))

  pub published_is : (under : ℕ) (p : PieceParts) (new : RollParts) (parts' : List Part) → new ≡ roll_after roll (Publish under) → parts' ≡ set parts p.job.proc.0 (Tabled p.entries p.drops) →
      book_of sources new parts' ≡ published old under p
  published_is under p new parts' e q =
      ap (λ (r : RollParts). book_of sources r parts') e ∙ ap (λ z. book_of sources (roll_after roll (Publish under)) z) q ∙ ap (λ (z : BookParts). published z under p) v

  -- ---- losses

  abbrev pub RollLoses : ℕ → Bool → Type 0
  RollLoses under r = (r ≡ true) ↔ ((f : ℕ) × IsHeldUnder (statuses_of roll) under f)

  pub loss_held : (under : ℕ) → (f : ℕ) × IsHeldUnder (statuses_of roll) under f → (f : ℕ) × IsHeldUnder (statuses_in old) under f
  loss_held under (f, h) = (f, subst (λ (z : BookParts). IsHeldUnder (statuses_in z) under f) v (held_in_book says sources roll parts total amount left k under f h))

  pub held_loss : (under : ℕ) → (f : ℕ) × IsHeldUnder (statuses_in old) under f → (f : ℕ) × IsHeldUnder (statuses_of roll) under f
  held_loss under (f, h) = (f, held_on_roll says sources roll parts total amount left k under f (subst (λ (z : BookParts). IsHeldUnder (statuses_in z) under f) (sym v) h))

  pub kept_lost : (under : ℕ) (why : Lost) (r : Bool) (new : RollParts) → RollLoses under r → new ≡ cond r (roll_after roll (Lose under why)) roll → IsKept says sources new parts total amount left
  kept_lost under why true new t e =
      let (f, h) = t.0 refl in
      kept_loss says sources roll parts total amount left k under why f new (held_in_book says sources roll parts total amount left k under f h) e
  kept_lost under why false new t e = subst (λ (z : RollParts). IsKept says sources z parts total amount left) (sym e) k

  pub lost_is : (under : ℕ) (why : Lost) (r : Bool) (new : RollParts) → r ≡ true → new ≡ cond r (roll_after roll (Lose under why)) roll → book_of sources new parts ≡ with_event old (Lose under why)
  lost_is under why r new t e = ap (λ (z : RollParts). book_of sources z parts) (e ∙ ap (λ z. cond z (roll_after roll (Lose under why)) roll) t) ∙ ap (λ (z : BookParts). with_event z (Lose under why)) v

  pub not_lost_is : (under : ℕ) (why : Lost) (r : Bool) (new : RollParts) → r ≡ false → new ≡ cond r (roll_after roll (Lose under why)) roll → book_of sources new parts ≡ old
  not_lost_is under why r new t e = ap (λ (z : RollParts). book_of sources z parts) (e ∙ ap (λ z. cond z (roll_after roll (Lose under why)) roll) t) ∙ v

  -- ---- the end

  pub done_is : (r : Bool) → (r ≡ true) ↔ AllSettled roll → (r ≡ true) ↔ AllSettled (roll_in old)
  done_is r = subst (λ (z : RollParts). (r ≡ true) ↔ AllSettled z) (same_roll says sources roll parts total amount left k ∙ ap roll_in v)

  pub held_is : (r : Bool) → (r ≡ true) ↔ ((t f : ℕ) × IsHeldUnder (statuses_of roll) t f) → (r ≡ true) ↔ ((t f : ℕ) × IsHeldUnder (statuses_in old) t f)
  held_is r = subst (λ (z : RollParts). (r ≡ true) ↔ ((t f : ℕ) × IsHeldUnder (statuses_of z) t f)) (same_roll says sources roll parts total amount left k ∙ ap roll_in v)

  -- ---- what a publication that is due asks of the parts

  module _ (under : ℕ) (p : PieceParts) (due : IsDue old under (job_tree p.job)) where
    held_here : IsHeldUnder (statuses_in b) under p.job.proc.0
    held_here = (due_here under p due).held

    pub due_place : p.job.proc.0 < length parts
    due_place = subst (λ z. p.job.proc.0 < z) (sym k.sound.size) (tabled b p.job.proc.0 (on_desk (its_desk b) b.history p.job.proc.0 _ held_here.held)).0

    pub due_room : 1 < left
    due_room = room says sources roll parts total amount left k under p.job.proc.0 held_here

    pub due_kept : AreOf (job_tree p.job) p.entries → IsToldBy says (job_tree p.job) (table_from p.entries p.drops) → (r : Bool) (new : RollParts) (parts' : List Part) (total' amount' left' : ℕ) →
        (r ≡ true) ↔ IsHeldUnder (statuses_of roll) under p.job.proc.0 → new ≡ cond r (roll_after roll (Publish under)) roll → parts' ≡ set parts p.job.proc.0 (Tabled p.entries p.drops) →
        total' ≡ total + 1 → amount' ≡ 0 → left' + 1 ≡ left → IsKept says sources new parts' total' amount' left'
    due_kept derived told r new parts' total' amount' left' t e put more nothing fewer =
        kept_published says sources roll parts total amount left k under p new parts' total' amount' left' (due_here under p due) derived told (roll_publishes under p due r new t e) put more nothing fewer

  -- ---- who is settled

  part_at : (xs : List Part) (f : ℕ) (x : Part) → xs ≡ parts → f < length parts → x ≡ get_or xs f x → slice_get parts f ≡ Some x
  part_at xs f x same l e = slice_get_read parts (length parts) f x refl l (e ∙ ap (λ z. get_or z f x) same)

  pub tabled_here : (xs : List Part) (f : ℕ) (x : Part) (checked shown : List Checked) (drops : List Gap) → xs ≡ parts → f < length parts → x ≡ get_or xs f x → x ≡ Tabled checked drops → shown ≡ checked →
      IsSettled (statuses_in old) f × ((ds : List Gap) × (slice_get old.parts f ≡ Some (Tabled shown ds)))
  tabled_here xs f x checked shown drops same l e q is =
      let there : slice_get parts f ≡ Some (Tabled shown drops) = part_at xs f x same l e ∙ ap Some q ∙ ap (λ z. Some (Tabled z drops)) (sym is) in
      subst (λ (z : BookParts). IsSettled (statuses_in z) f × ((ds : List Gap) × (slice_get z.parts f ≡ Some (Tabled shown ds)))) v (tabled_is_settled says b k.sound f shown drops there, (drops, there))

  pub left_here : (xs : List Part) (f : ℕ) (x : Part) → xs ≡ parts → f < length parts → x ≡ get_or xs f x → x ≡ LeftOut → IsSettled (statuses_in old) f → ⊥
  left_here xs f x same l e q = subst (λ (z : BookParts). IsSettled (statuses_in z) f → ⊥) v (left_is_not says b k.sound f (part_at xs f x same l e ∙ ap Some q))
