-- Each leak that is told is that of an entry.
use Rattle.std.proofs.Common.{◌≡◌, ℕ, inl, inr, List, [], ◌∷◌, map, Some, slice_get, refl}
use Rattle.std.specs.Prelude.{Contains, filter}
use Rattle.px_base.specs.declared.trace.Site.{Site}
use Rattle.px_entry.specs.declared.entries.Entry.{Entry}
use Rattle.px_entry.specs.declared.tables.Gap.{Gap}
use Rattle.px_entry.proofs.Lists.{Each, each_all}
use Rattle.px_text_report.specs.Known.{Known, tabled, left_out}
use Rattle.px_text_report.proofs.BugLemmas.{each_others, each_flat, contains_get}
use Rattle.px_leak.specs.declared.got.GotBlock.{GotBlock}
use Rattle.px_leak.specs.declared.told.Leak.{Leak}
use Rattle.px_leak.specs.Losses.{lost_blocks}
use Rattle.px_leak.specs.Leaks.{leak_of, leak_sites, is_outer, outer_leaks, same_leak, leaks_of, all_leaks}
use Rattle.px_leak.specs.Laws.{HasLeakAt, LeaksAreOfEntries}
use Rattle.px_leak.proofs.Members.{Has, has_to, has_filter}

module _ (parts : List Known) (n : ℕ) (entries : List Entry) (drops : List Gap) (at' : slice_get parts n ≡ Some (tabled entries drops)) (x : Entry) (within : Contains entries x) where
  each_block : (gs : List GotBlock) → ((g : GotBlock) → Has gs g → Contains (lost_blocks x) g) → Each (HasLeakAt parts n) (map (leak_of x) gs)
  each_block [] each = tt
  each_block (g ∷ gs) each =
      (record { entries = entries; drops = drops; table = at'; entry = x; within = within; block = g; loses = each g (inl refl); is = refl }, each_block gs (λ h k. each h (inr k)))

  entry_leaks : (sites : List (List Site)) → Each (HasLeakAt parts n) (outer_leaks sites x)
  entry_leaks sites = each_block (filter (is_outer sites) (lost_blocks x)) (λ g h. has_to (lost_blocks x) g (has_filter (is_outer sites) (lost_blocks x) g h).0)

part_leaks : (parts : List Known) (sites : List (List Site)) (n : ℕ) (k : Known) → slice_get parts n ≡ Some k → Each (HasLeakAt parts n) (leaks_of sites k)
part_leaks parts sites n (tabled entries drops) at' =
    each_others (HasLeakAt parts n) same_leak [] _ (each_flat (HasLeakAt parts n) (outer_leaks sites) entries (λ x within. entry_leaks parts n entries drops at' x within sites))
part_leaks parts sites n left_out at' = tt

each_numbered : (parts : List Known) (n : ℕ) (ls : List Leak) → Each (HasLeakAt parts n) ls → Each (λ l. (m : ℕ) × HasLeakAt parts m l) ls
each_numbered parts n [] h = tt
each_numbered parts n (l ∷ ls) h = ((n, h.0), each_numbered parts n ls h.1)

pub leaks_of_entries : LeaksAreOfEntries
leaks_of_entries parts =
    each_all (λ l. (n : ℕ) × HasLeakAt parts n l) (all_leaks parts)
    (each_flat (λ l. (n : ℕ) × HasLeakAt parts n l) (leaks_of (map leak_sites parts)) parts
    (λ k within. let (n, at') = contains_get parts k within in each_numbered parts n (leaks_of (map leak_sites parts) k) (part_leaks parts (map leak_sites parts) n k at')))
