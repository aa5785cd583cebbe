use Rattle.px_walks.proofs.FewLemmas.{few_goes}
use Rattle.px_walks.proofs.walking.act_command.Goals as goal

pub led_on-requires : goal.led_on-requires
led_on-requires c = few_goes c.args.state c.do_command.new.state c.in_ok-led.led c.in_ok-led.ensures.few
