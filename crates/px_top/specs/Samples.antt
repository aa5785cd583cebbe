-- What the program answers where a sample is asked for.
use Rattle.std.specs.Prelude.{◌≡◌, ◌⊎◌, Result, Ok, Err}
use Rattle.px_gen.specs.Samples.{sample_text}
use Rattle.px_words.specs.Samples.{SampleAsked}
use Rattle.px_lines.specs.declared.cause.Cause.{Cause}
use Rattle.px_lines.specs.declared.cause.Cause.TheVariants.{Unwritten, NoMemory}
use Rattle.px_lines.specs.declared.status.Status.{Status}
use Rattle.px_lines.specs.declared.status.Status.TheVariants.{Done}
use Rattle.px_lines.specs.Sinks.{Change, Grew, WasCut}

-- How a sample is answered: the whole text is written, and all is done; its write failed, and a prefix of it is written; or
-- memory ran out.
pub record AnswersSample (s : SampleAsked) (out : Change) (ended : Result Status Cause) : Type 0 where
  pub known : ended ≡ Ok Done ⊎ (ended ≡ Err Unwritten ⊎ ended ≡ Err NoMemory)
  pub done : ended ≡ Ok Done → Grew out (sample_text s.start s.count)
  pub cut : ended ≡ Err Unwritten → WasCut out (sample_text s.start s.count)
