-- Where acts lead that leave a walk in its place.
use Rattle.std.specs.Prelude.{Option, Some, option_map}
use Rattle.px_callgraph.specs.Alternatives.{Walk, Leads}
use Rattle.px_steps.specs.declared.led.Led.{Led}
use Rattle.px_walks.specs.Walks.{at_walk}

abbrev pub lead_at : Walk → Led → Leads
lead_at w led = at_walk (Some led) w

-- the same, if a way was taken
abbrev pub leads_at : Walk → Option Led → Option Leads
leads_at w led = option_map (lead_at w) led
