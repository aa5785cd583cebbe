-- Which variables are the places of live blocks, and what is reached, as the code keeps it.
use Rattle.std.specs.Prelude.{◌≡◌, ℕ, ◌<◌, Bool, false, List, All, length, slice_index_or}
use Rattle.std.specs.List.{list_any}
use Rattle.px_entry.specs.declared.atoms.Atom.{Atom}
use Rattle.px_entry.specs.declared.entries.Entry.{Entry}
use Rattle.px_leak.specs.declared.got.GotBlock.{GotBlock}
use Rattle.px_leak.specs.declared.losses.Fates.{Fates}
use Rattle.px_leak.specs.Losses.{is_live_at}
use Rattle.px_leak.specs.Reaches.{Knows}

-- of the first n variables
pub record AreLives (n : ℕ) (atoms : List Atom) (lives : List Bool) : Type 0 where
  pub size : length lives ≡ n
  pub each : (v : ℕ) → v < n → slice_index_or lives v false ≡ list_any (is_live_at v) atoms

-- blocks of variables of the entry
abbrev pub AreWithin : Entry → List GotBlock → Type 0
AreWithin x got = All (λ (g : GotBlock). g.place < length x.vars) got

pub record Tells (x : Entry) (f : Fates) : Type 0 where
  pub lives : AreLives (length x.vars) x.post f.lives.items
  pub reach : Knows x f.reach
