-- The open calls of a trace, as the code keeps them.
use Rattle.std.specs.Prelude.{◌≡◌, List, length}
use Rattle.px_base.specs.declared.trace.ProcId.{ProcId}
use Rattle.px_text_report.specs.Calls.{outermost}
use Rattle.px_leak.specs.declared.got.OpenCalls.{OpenCalls}

-- so many calls are open, and this is the outermost
pub record Holds (calls : List ProcId) (kept : OpenCalls) : Type 0 where
  pub many : length calls ≡ kept.depth
  pub first : outermost calls ≡ kept.first
