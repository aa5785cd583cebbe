-- A check with the help of domains in some order is one with the same domains in another.
use Rattle.std.proofs.Common.{ℕ, List, Bool, Option}
use Rattle.std.proofs.lemmas.List.Sorted.{IsPermutation-trans}
use Rattle.px_base.specs.LimitNumbers.{LimitNumbers}
use Rattle.px_syntax.specs.ProgramTree.{ProgramTree}
use Rattle.px_text_report.specs.Reports.{Form}
use Rattle.px_checking.specs.declared.asked.More.{More}
use Rattle.px_checking.specs.Kinds.{IsRisingOf}
use Rattle.px_keep.specs.Items.{KeptItem}
use Rattle.px_rechecking.specs.Found.{IsKeptCheckOf}

pub kept_check_of : (limits : LimitNumbers) (form : Form) (stats : Bool) (more : More) (items : List KeptItem) (given sorted : List ℕ) (P : ProgramTree) (text : List ℕ) (b : Bool) (line : Option (List ℕ)) → IsRisingOf given sorted →
    IsKeptCheckOf limits form stats more items sorted P text b line → IsKeptCheckOf limits form stats more items given P text b line
kept_check_of limits form stats more items given sorted P text b line rising h =
    let c = h.check in
    record {
      used = h.used;
      check = record {
        kinds = c.kinds;
        rising = (IsPermutation-trans given sorted c.kinds rising.0 c.rising.0, c.rising.1);
        findings = c.findings;
        found = c.found;
        backed = c.backed;
        rest = c.rest;
        after = c.after;
        text_is = c.text_is;
        bug = c.bug;
        line_is = c.line_is;
      };
      reused = h.reused;
    }
