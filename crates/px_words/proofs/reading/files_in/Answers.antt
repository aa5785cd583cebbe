use Rattle.std.proofs.Common.{◌∙◌, sym, ap, List, map, option_map, Some, None, Option, Bor}
use Rattle.std.proofs.lemmas.Result.{IfOk-weaker}
use Rattle.clap.specs.Words.{found_of}
use Rattle.px_base.specs.Texts.{Text}
use Rattle.px_words.specs.Meaning.{some_files}
use Rattle.px_words.proofs.FoundLemmas.{files_are}
use Rattle.px_words.proofs.reading.files_in.Goals as goal

abbrev seen : Option (Bor (List (Bor Text))) → Option (List Text)
seen = option_map (λ s. map (λ v. v.now) s.now)

pub returns-in-Some : goal.returns-in-Some
returns-in-Some c =
    let is = files_are (found_of c.args.matches.now) (seen (Some c.in-Some.files)) (ap seen (sym c.in-Some.is) ∙ c.get_strs.ensures) in
    IfOk-weaker c.some_files.result _ _ (λ o h. h ∙ ap some_files is) c.some_files.ensures

pub returns-in-None : goal.returns-in-None
returns-in-None c = ap some_files (files_are (found_of c.args.matches.now) (seen None) (ap seen (sym c.in-None.is) ∙ c.get_strs.ensures))
