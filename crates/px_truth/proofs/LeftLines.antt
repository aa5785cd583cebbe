-- Which lines a report has of what is left out: those of the left-out items, and those of kept procedures without a table.
use Rattle.std.proofs.Common.{◌≡◌, ℕ, zero, suc, Bool, true, false, cond, List, [], ◌∷◌, ◌++◌, slice_get, Some, refl, sym, ap, subst, inl, inr}
use Rattle.std.specs.Prelude.{◌⊎◌, codes}
use Rattle.std.proofs.lemmas.Option.{none-some, same_Some}
use Rattle.px_base.specs.declared.trace.Site.{Site}
use Rattle.px_syntax.specs.declared.program.Left.{Left}
use Rattle.px_syntax.specs.ProgramTree.{ProcedureTree}
use Rattle.px_symexec.proofs.Lists.{IsIn, in_left, in_right, in_either}
use Rattle.px_text_report.specs.Places.{comes_before}
use Rattle.px_text_report.specs.Known.{Known, left_out}
use Rattle.px_text_report.specs.LeftOut.{left_word, left_with, without_table, those_before, those_after, by_place}

-- ---- both lists by their places

before_after : (site : Site) (ys : List Left) → those_before site ys ++ those_after site ys ≡ ys
before_after site [] = refl
before_after site (y ∷ ys) = by (comes_before y.site site) (before_after site ys)
  where
    by : (b : Bool) → those_before site ys ++ those_after site ys ≡ ys → cond b (y ∷ those_before site ys) [] ++ cond b (those_after site ys) (y ∷ ys) ≡ y ∷ ys
    by true e = ap (λ z. y ∷ z) e
    by false e = refl

pub placed_first : (x : Left) (xs ys : List Left) → IsIn x xs → IsIn x (by_place xs ys)
placed_first x [] ys h = absurd h
placed_first x (z ∷ xs) ys (inl e) = in_right x (those_before z.site ys) (z ∷ by_place xs (those_after z.site ys)) (inl e)
placed_first x (z ∷ xs) ys (inr h) =
    in_right x (those_before z.site ys) (z ∷ by_place xs (those_after z.site ys)) (inr (placed_first x xs (those_after z.site ys) h))

pub placed_second : (x : Left) (xs ys : List Left) → IsIn x ys → IsIn x (by_place xs ys)
placed_second x [] ys h = h
placed_second x (z ∷ xs) ys h =
    by (in_either x (those_before z.site ys) (those_after z.site ys) (subst (IsIn x) (sym (before_after z.site ys)) h)) (placed_second x xs (those_after z.site ys))
  where
    by : IsIn x (those_before z.site ys) ⊎ IsIn x (those_after z.site ys) → (IsIn x (those_after z.site ys) → IsIn x (by_place xs (those_after z.site ys))) →
        IsIn x (those_before z.site ys ++ (z ∷ by_place xs (those_after z.site ys)))
    by (inl k) next = in_left x (those_before z.site ys) (z ∷ by_place xs (those_after z.site ys)) k
    by (inr k) next = in_right x (those_before z.site ys) (z ∷ by_place xs (those_after z.site ys)) (inr (next k))

-- ---- procedures without a table

-- the line of one that is too large
abbrev pub large : ProcedureTree → Left
large p = record { proc = Some p.proc; site = p.site; word = codes "size" }

pub without_in : (ps : List ProcedureTree) (xs : List Known) (n : ℕ) (p : ProcedureTree) → slice_get ps n ≡ Some p → slice_get xs n ≡ Some left_out → IsIn (large p) (without_table ps xs)
without_in [] xs n p a b = absurd (none-some p a)
without_in (q ∷ ps) [] n p a b = absurd (none-some left_out b)
without_in (q ∷ ps) (x ∷ xs) zero p a b =
    subst (λ y. IsIn (large p) (left_with q (left_word y) ++ without_table ps xs)) (sym (same_Some _ _ b)) (inl (ap large (sym (same_Some _ _ a))))
without_in (q ∷ ps) (x ∷ xs) (suc n) p a b = in_right (large p) (left_with q (left_word x)) (without_table ps xs) (without_in ps xs n p a b)
