-- What the code keeps of mentions, as plain data.
use Rattle.std.specs.Prelude.{◌+◌}
use Rattle.px_syntax.specs.declared.type_name.Base.TheVariants.{Struct}
use Rattle.px_typing.specs.declared.mention.Mentioned.{Mentioned}
use Rattle.px_typing.specs.declared.mention.Mentioned.TheVariants.{Calls, Declares, Named, Sized, Defines}
use Rattle.px_typing.specs.Mentions.{Mention, calls, declares, blocks}

abbrev pub mention_of : Mentioned → Mention
mention_of (Calls name) = calls name.now
mention_of (Declares name) = declares name.now
mention_of (Named base stars) = blocks base.now stars
mention_of (Sized base stars) = blocks base.now (stars + 1)
mention_of (Defines tag) = blocks (Struct tag.now) 1
