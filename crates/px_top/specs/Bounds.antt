-- How much a command may ask for.
use Rattle.std.specs.Prelude.{◌≤◌, length, ⊤}
use Rattle.px_gen.specs.Range.{IsInRange}
use Rattle.px_base.specs.Bounds.{most_files}
use Rattle.px_top.specs.declared.words.Command.{Command}
use Rattle.px_top.specs.declared.words.Command.TheVariants.{Check, Keep, Worker, Sample}

-- few files, and as many procedures as a sample may have
abbrev pub IsInBounds : Command → Type 0
IsInBounds (Check c) = length c.check.names.items ≤ most_files
IsInBounds (Keep c) = length c.check.names.items ≤ most_files
IsInBounds Worker = ⊤
IsInBounds (Sample s) = IsInRange s.count
