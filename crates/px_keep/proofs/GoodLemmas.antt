-- Whether an item is good for a job, and which is the first.
use Rattle.std.proofs.Common.{◌≡◌, sym, subst, ◌∙◌, ap, arith, ℕ, zero, suc, ◌+◌, ◌-◌, ◌≤◌, ◌<◌, inl, inr, List, [], ◌∷◌, length, get_or, map, ◌++◌}
use Rattle.std.specs.Prelude.{◌≢◌, min, slice_index}
use Rattle.std.proofs.lemmas.Bool.{cases_lt}
use Rattle.std.proofs.lemmas.List.{get_or_push, get_or_append_left, get_or_default, length-append}
use Rattle.px_entry.specs.declared.tables.Table.{Table}
use Rattle.px_callgraph.specs.JobTree.{JobTree}
use Rattle.px_chains.specs.Ends.{IsEndOfKey}
use Rattle.px_wire.specs.Messages.{MessageTree, request, reply, large, message_bytes, IsMessage, Spells}
use Rattle.px_wire.proofs.MessageRoundTrips.{one_message}
use Rattle.px_pieces.specs.declared.desk.Lost.{Lost}
use Rattle.px_pool.specs.Outcomes.{GivesTable, IsFaultIn}
use Rattle.px_pool.specs.Laws.{IsShown}
use Rattle.px_pool.proofs.FaultLemmas.{table_or_fault}
use Rattle.px_keep.specs.declared.kept.LentItem.{LentItem}
use Rattle.px_keep.specs.Items.{KeptItem}
use Rattle.px_keep.specs.Lent.{item_of, IsLent, AreLent}
use Rattle.px_keep.specs.Looking.{AreKeys}
use Rattle.px_keep.specs.Good.{unticketed, IsGood, IsNoGood, AreNoGood, IsFirstGood}

-- ---- one item

abbrev with_ticket : JobTree → ℕ → JobTree
with_ticket j n = record { proc = j.proc; body = j.body; types = j.types; callees = j.callees; limits = j.limits; kinds = j.kinds; ticket = n }

pub same_job : (j : JobTree) → j.ticket ≡ 0 → unticketed j ≡ j
same_job j e = ap (with_ticket j) (sym e)

job_in : JobTree → MessageTree → JobTree
job_in k (request j) = j
job_in k (reply ticket kinds t ds) = k
job_in k (large ticket) = k

one_job : (m : List ℕ) (j k : JobTree) → Spells m (request j) → Spells m (request k) → j ≡ k
unfolding job_in
one_job m j k p q = ap (job_in j) (one_message m (request j) (request k) p q)

-- under ticket 0
module _ (j : JobTree) (e : j.ticket ≡ 0) (x : KeptItem) where
  pub good : (t : Table) → x.asked ≡ message_bytes (request j) → IsMessage (request j) → GivesTable 1 j x.given t → IsGood j x t
  good t same range gives = record {
    asked = subst (λ k. Spells x.asked (request k)) (sym (same_job j e)) (same, range);
    given = subst (λ k. GivesTable 1 k x.given t) (sym (same_job j e)) gives;
  }

  pub other_bytes : x.asked ≢ message_bytes (request j) → IsNoGood j x
  other_bytes other t h = other ((subst (λ k. Spells x.asked (request k)) (same_job j e) h.asked).0)

  pub faulty : (why : Lost) → IsShown why → IsFaultIn 1 j x.given why → IsNoGood j x
  faulty why shown fault t h = table_or_fault 1 j x.given t why shown (subst (λ k. GivesTable 1 k x.given t) (same_job j e) h.given) fault

  pub out_of_range : ¬ IsMessage (request j) → IsNoGood j x
  out_of_range none t h = none ((subst (λ k. Spells x.asked (request k)) (same_job j e) h.asked).1)

-- one of another procedure
other_proc : (j : JobTree) (x : LentItem) → IsLent x → x.proc ≢ j.proc.0 → IsNoGood j (item_of x)
other_proc j x lent other t h = other (sym lent.proc ∙ ap (λ (k : JobTree). k.proc.0) (one_job x.asked.now lent.item.job (unticketed j) lent.item.asks h.asked))

-- ---- the first

-- all before a place are no good
abbrev pub AreNoGoodBelow : JobTree → List LentItem → ℕ → Type 0
AreNoGoodBelow j items n = (k : ℕ) (d : LentItem) → k < n → k < length items → IsNoGood j (item_of (get_or items k d))

pub all_no_good : (j : JobTree) (items : List LentItem) (n : ℕ) → length items ≤ n → AreNoGoodBelow j items n → AreNoGood j (map item_of items)
all_no_good j [] n l h = tt
all_no_good j (x ∷ xs) n l h = (h 0 x (omega arith) (omega arith), all_no_good j xs (n - 1) (omega arith) (λ k d b m. h (suc k) d (omega arith) (omega arith)))

pub first_at : (j : JobTree) (items : List LentItem) (n : ℕ) (d : LentItem) (t : Table) → n < length items → AreNoGoodBelow j items n → IsGood j (item_of (get_or items n d)) t → IsFirstGood j (map item_of items) t
first_at j [] n d t l h good = absurd (omega arith)
first_at j (x ∷ xs) zero d t l h good = inl good
first_at j (x ∷ xs) (suc n) d t l h good = inr (h 0 x (omega arith) (omega arith), first_at j xs n d t (omega arith) (λ k e b m. h (suc k) e (omega arith) (omega arith)) good)

-- ---- by keys

-- all items from the last to the one that ends there are no good; it is of the job's procedure
pub record IsLookedAt (j : JobTree) (items : List LentItem) (keys : List ℕ) (n : ℕ) : Type 0 where
  pub within : n ≤ length items
  pub here : 0 < n → slice_index keys (n - 1) ≡ j.proc.0
  pub none : AreNoGoodBelow j items (length items - n)

module _ (j : JobTree) (items : List LentItem) (kept : ℕ) (keys : List ℕ) (lent : AreLent items) (are : AreKeys items kept keys) (inside : j.proc.0 < kept) where
  lent_at : (xs : List LentItem) (k : ℕ) (d : LentItem) → AreLent xs → k < length xs → IsLent (get_or xs k d)
  lent_at [] k d h l = absurd (omega arith)
  lent_at (x ∷ xs) zero d h l = h.0
  lent_at (x ∷ xs) (suc k) d h l = lent_at xs k d h.1 (omega arith)

  -- one whose key is another
  by_key : (k : ℕ) (d : LentItem) → k < length items → slice_index keys (length items - suc k) ≢ j.proc.0 → IsNoGood j (item_of (get_or items k d))
  by_key k d l other = other_proc j (get_or items k d) (lent_at items k d lent l) (λ same. other (key ∙ (let b : min (get_or items k d).proc kept ≡ j.proc.0 = omega (arith, same, inside) in b)))
    where
      place : length items - suc (length items - suc k) ≡ k
      place = omega (arith, l)

      key : slice_index keys (length items - suc k) ≡ min (get_or items k d).proc kept
      key = are.each (length items - suc k) d (omega (arith, l)) ∙ ap (λ n. min (get_or items n d).proc kept) place

  -- where the key's last place below m ends at n, those whose places are from n on are no good, if those from m on are
  pub skipped : (m n : ℕ) → m ≤ length items → IsEndOfKey keys j.proc.0 m n → AreNoGoodBelow j items (length items - m) → AreNoGoodBelow j items (length items - n)
  skipped m n l end h k d b inside' = elim (cases_lt k (length items - m)) [
    | inl early ↦ h k d early inside'
    | inr late ↦ by_key k d inside' (end.none_after (length items - suc k) (omega arith) (omega arith))
  ]

  -- and so are those from the one before n on, if the one there is no good
  pub one_more : (n : ℕ) (d : LentItem) → 0 < n → n ≤ length items → IsNoGood j (item_of (get_or items (length items - n) d)) → AreNoGoodBelow j items (length items - n) → AreNoGoodBelow j items (length items - (n - 1))
  one_more n d some l none h k e b inside' = elim (cases_lt k (length items - n)) [
    | inl early ↦ h k e early inside'
    | inr late ↦ (let same : length items - n ≡ k = omega arith in subst (λ i. IsNoGood j (item_of (get_or items i e))) same (subst (IsNoGood j) (ap item_of (get_or_default items (length items - n) d e (omega arith))) none))
  ]

  pub from_end : (n : ℕ) → IsEndOfKey keys j.proc.0 (length keys) n → IsLookedAt j items keys n
  from_end n end = record { within = at.within; here = at.here; none = skipped (length items) n (omega arith) at (λ k d l m. absurd (omega arith)) }
    where
      at : IsEndOfKey keys j.proc.0 (length items) n
      at = subst (λ m. IsEndOfKey keys j.proc.0 m n) are.many end

  pub goes_on : (n m : ℕ) (d : LentItem) → 0 < n → IsLookedAt j items keys n → IsNoGood j (item_of (get_or items (length items - n) d)) → IsEndOfKey keys (slice_index keys (n - 1)) (n - 1) m → IsLookedAt j items keys m
  goes_on n m d some h no_good end = record {
    within = let a = at.within in let b = h.within in omega arith;
    here = at.here;
    none = skipped (n - 1) m (let b = h.within in omega arith) at (one_more n d some h.within no_good h.none);
  }
    where
      at : IsEndOfKey keys j.proc.0 (n - 1) m
      at = subst (λ k. IsEndOfKey keys k (n - 1) m) (h.here some) end

-- ---- the keys, one after another

pub record KeysSoFar (items : List LentItem) (kept : ℕ) (keys : List ℕ) (n : ℕ) : Type 0 where
  pub many : length keys ≡ n
  pub each : (i : ℕ) (d : LentItem) → i < n → slice_index keys i ≡ min (get_or items (length items - suc i) d).proc kept

pub no_keys : (items : List LentItem) (kept : ℕ) (keys : List ℕ) → keys ≡ [] → KeysSoFar items kept keys 0
no_keys items kept keys none = record { many = ap length none; each = λ i d l. absurd (omega arith) }

pub one_key : (items : List LentItem) (kept : ℕ) (keys new : List ℕ) (n key : ℕ) → n < length items → KeysSoFar items kept keys n → ((d : LentItem) → key ≡ min (get_or items (length items - suc n) d).proc kept) → new ≡ keys ++ key ∷ [] →
    KeysSoFar items kept new (n + 1)
one_key items kept keys new n key l h is pushed = record {
  many = let m = h.many in let e : length new ≡ length keys + 1 = ap length pushed ∙ length-append keys (key ∷ []) in omega arith;
  each = λ i d b. elim (cases_lt i n) [
    | inl below ↦ ap (λ ks. slice_index ks i) pushed ∙ get_or_append_left keys (key ∷ []) 0 i (let m = h.many in omega arith) ∙ h.each i d below
    | inr not_below ↦ (let same : i ≡ n = omega arith in ap (λ ks. slice_index ks i) pushed ∙ get_or_push keys key 0 i (h.many ∙ sym same) ∙ is d ∙ ap (λ k. min (get_or items (length items - suc k) d).proc kept) (sym same))
  ];
}

pub all_keys : (items : List LentItem) (kept : ℕ) (keys : List ℕ) (n : ℕ) → length items ≤ n → n ≤ length items → KeysSoFar items kept keys n → AreKeys items kept keys
all_keys items kept keys n up down h = record { many = let m = h.many in omega arith; each = λ i d l. h.each i d (omega arith) }
