use Rattle.std.proofs.Common.{[], ◌++◌, refl, sym, append-nil}
use Rattle.px_meaning.proofs.TreeDetermined.{tree_events_agree}
use Rattle.px_meaning.proofs.laws.tree_events_determine.Goals as goal

pub returns : goal.returns
returns c = record {
  same = λ P f arguments heap t d e m n h h'.
      let (tt', pq, de, mn) = tree_events_agree P f arguments heap t t d e m n h h' [] [] refl in (de, mn);
  whole = λ P f arguments heap t more d e m n h h'.
      let (tt', pq, de, mn) = tree_events_agree P f arguments heap t (t ++ more) d e m n h h' more [] (sym (append-nil (t ++ more))) in pq;
}
