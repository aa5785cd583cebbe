-- What keeps a program gives each job its own table.
use Rattle.std.proofs.Common.{◌≡◌, refl, subst, ℕ, inl, inr, List, [], ◌∷◌, ◌++◌, Bool, true, false, cond, Option}
use Rattle.std.specs.Prelude.{◌⊎◌, ◌&&◌, nat_le, length}
use Rattle.px_entry.specs.declared.tables.Table.{Table}
use Rattle.px_callgraph.specs.JobTree.{JobTree}
use Rattle.px_frames.specs.Frames.{most_bytes}
use Rattle.px_symexec.specs.Tables.{IsTable}
use Rattle.px_symexec.specs.One.{Work}
use Rattle.px_symexec.proofs.TicketLemmas.{no_ticket}
use Rattle.px_explore.specs.declared.results.Analysis.{Analysis}
use Rattle.px_explore.specs.Own.{IsAnalysis}
use Rattle.px_wire.specs.Messages.{request, reply, message_bytes, IsMessage}
use Rattle.px_wire.proofs.MessageRoundTrips.{one_message, is_first}
use Rattle.px_findings.specs.declared.order.Turn.{Turn}
use Rattle.px_keep.specs.Items.{KeptItem}
use Rattle.px_keep.specs.Writing.{item, with_room}
use Rattle.px_keep.specs.Good.{unticketed, IsGood, IsFirstGood}
use Rattle.px_keep.specs.Keeping.{AreItemsOfAll}
use Rattle.px_keep.specs.Laws.{KeptIsHonest}
use Rattle.px_keep.proofs.ItemLemmas.{one_list}

-- the item of a job is good for no other, and gives the job's own table
good_own : (j : JobTree) (t : Table) (job : JobTree) (a : Analysis) → IsMessage (request job) → IsMessage (reply 0 job.kinds a.table a.derivations) → IsAnalysis job a →
    IsGood j (item (message_bytes (request job)) (message_bytes (reply 0 job.kinds a.table a.derivations))) t → IsTable j t
good_own j t job a asks gives own h =
    let asked : request job ≡ request (unticketed j) = one_message (message_bytes (request job)) (request job) (request (unticketed j)) (refl, asks) h.asked in
    let jobs : job ≡ unticketed j = cc in
    let (ds, spelled, derived) = h.given in
    let given : reply 0 job.kinds a.table a.derivations ≡ reply 0 j.kinds t ds =
    one_message (message_bytes (reply 0 job.kinds a.table a.derivations)) (reply 0 job.kinds a.table a.derivations) (reply 0 j.kinds t ds) (refl, gives)
    (is_first (message_bytes (reply 0 job.kinds a.table a.derivations)) 1 (reply 0 j.kinds t ds) spelled refl) in
    let tables : a.table ≡ t = cc in
    no_ticket (unticketed j) j.ticket t (subst (IsTable (unticketed j)) tables (subst (λ i. IsTable i a.table) jobs own.table))

in_room : (j : JobTree) (t : Table) (asked given : List ℕ) → IsFirstGood j (with_room asked given) t → IsGood j (item asked given) t
in_room j t asked given = go (nat_le (length asked) most_bytes && nat_le (length given) most_bytes)
  where
    go : (b : Bool) → IsFirstGood j (cond b (item asked given ∷ []) []) t → IsGood j (item asked given) t
    go true (inl good) = good
    go true (inr (none, first)) = absurd first
    go false first = absurd first

first_split : (j : JobTree) (t : Table) (xs ys : List KeptItem) → IsFirstGood j (xs ++ ys) t → IsFirstGood j xs t ⊎ IsFirstGood j ys t
first_split j t [] ys h = inr h
first_split j t (x ∷ xs) ys (inl good) = inl (inl good)
first_split j t (x ∷ xs) ys (inr (none, h)) = elim (first_split j t xs ys h) [ inl f ↦ inl (inr (none, f)) | inr f ↦ inr f ]

all_own : (w : Work) (tables : ℕ → Option Table) (ts : List Turn) (xs : List KeptItem) → AreItemsOfAll w tables ts xs → (j : JobTree) (t : Table) → IsFirstGood j xs t → IsTable j t
all_own w tables [] xs none j t h = absurd (subst (λ l. IsFirstGood j l t) none h)
all_own w tables (s ∷ ts) xs (own, rest, is, here, others) j t h = elim (first_split j t own rest (subst (λ l. IsFirstGood j l t) is h)) [
  | inl f ↦ good_own j t here.job here.analysis here.asks here.gives here.is_analysis (in_room j t _ _ (subst (λ l. IsFirstGood j l t) here.items f))
  | inr f ↦ all_own w tables ts rest others j t f
]

pub kept_is_honest : KeptIsHonest
kept_is_honest w bytes xs j t (ys, h, kept) are first = all_own w h.tables h.order ys h.items j t (subst (λ l. IsFirstGood j l t) (one_list bytes xs ys are kept) first)
