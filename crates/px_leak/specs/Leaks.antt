-- Which leaks are told.
use Rattle.std.specs.Prelude.{not, ℕ, nat_lt, Bool, false, List, [], map, filter, flat_map, length, if◌then◌else◌, Option, None, Some, slice_index_or}
use Rattle.std.specs.List.{list_any}
use Rattle.px_base.specs.declared.trace.ProcId.{ProcId}
use Rattle.px_base.specs.declared.trace.Site.{Site}
use Rattle.px_entry.specs.declared.entries.Entry.{Entry}
use Rattle.px_text_report.specs.Known.{Known, tabled, left_out}
use Rattle.px_text_report.specs.Bugs.{same_site}
use Rattle.px_text_report.specs.Firsts.{firsts}
use Rattle.px_leak.specs.declared.got.GotBlock.{GotBlock}
use Rattle.px_leak.specs.declared.told.Leak.{Leak}
use Rattle.px_leak.specs.Losses.{lost_blocks}

-- a number as the code keeps it, which is 2^32 - 1 at most
abbrev pub counted : ℕ → ℕ
counted n = if nat_lt n 4294967295 then n else 4294967295

abbrev pub leak_at : Entry → ℕ → GotBlock → Leak
leak_at x blocks g = record { proc = x.proc; site = g.site; trace = x.trace; blocks = blocks }

-- the leak of an entry at the site of a block that it loses
abbrev pub leak_of : Entry → GotBlock → Leak
leak_of x g = leak_at x (counted (length (lost_blocks x))) g

abbrev pub same_leak : Leak → Leak → Bool
same_leak a b = same_site a.site b.site

-- the sites at which an entry leaks, and those at which a procedure does, each once
abbrev pub entry_sites : Entry → List Site
entry_sites x = map (λ (g : GotBlock). g.site) (lost_blocks x)

abbrev pub table_sites : List Entry → List Site
table_sites entries = firsts same_site (flat_map entry_sites entries)

abbrev pub leak_sites : Known → List Site
leak_sites (tabled entries drops) = table_sites entries
leak_sites left_out = []

-- ---- by the sites at which each kept procedure leaks

abbrev pub leaks_there : List (List Site) → Site → Option ProcId → Bool
leaks_there sites s None = false
leaks_there sites s (Some g) = list_any (same_site s) (slice_index_or sites g.0 [])

-- a lost block is outer: it isn't in a call of a procedure that leaks at its site too
abbrev pub is_outer : List (List Site) → GotBlock → Bool
is_outer sites g = not (leaks_there sites g.site g.call)

-- the leaks of an entry at the sites of such blocks
abbrev pub outer_leaks : List (List Site) → Entry → List Leak
outer_leaks sites x = map (leak_of x) (filter (is_outer sites) (lost_blocks x))

-- of these entries the first such leak for each site
abbrev pub table_leaks : List (List Site) → List Entry → List Leak
table_leaks sites entries = firsts same_leak (flat_map (outer_leaks sites) entries)

abbrev pub leaks_of : List (List Site) → Known → List Leak
leaks_of sites (tabled entries drops) = table_leaks sites entries
leaks_of sites left_out = []

-- of each kept procedure, in order
abbrev pub all_leaks : List Known → List Leak
all_leaks parts = flat_map (leaks_of (map leak_sites parts)) parts
