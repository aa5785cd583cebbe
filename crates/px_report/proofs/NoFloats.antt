-- A report has no float, and isn't deep.
use Rattle.std.proofs.Common.{◌≡◌, ◌≤◌, ℕ, List, [], ◌∷◌, map, refl, ap₂, ◌||◌, false, arith}
use Rattle.serde_json.specs.Data.{Data, depth, items_depth}
use Rattle.serde_json.specs.Read.{max_depth}
use Rattle.serde_json.specs.Written.{has_float, items_have_float}
use Rattle.serde_json.specs.View.{items_of}
use Rattle.px_syntax.specs.ProgramTree.{ProgramTree}
use Rattle.px_text_report.specs.declared.shown.Bug.{Bug}
use Rattle.px_text_report.specs.declared.reports.Report.{Report}
use Rattle.px_report.specs.Json.{mark_object, bug_object, dropped_object, left_object, report_object}

items_have_none : {A : Type 0} (f : A → Data) → ((x : A) → has_float (f x) ≡ false) → (xs : List A) → items_have_float (items_of (map f xs)) ≡ false
items_have_none f h [] = refl
items_have_none f h (x ∷ xs) = ap₂ (λ a b. a || b) (h x) (items_have_none f h xs)

bug_has_none : (P : ProgramTree) (b : Bug) → has_float (bug_object P b) ≡ false
bug_has_none P b = rw (items_have_none (mark_object P) (λ m. refl) b.trace) refl

pub report_has_none : (P : ProgramTree) (r : Report) → has_float (report_object P r) ≡ false
report_has_none P r =
    ap₂ (λ a b. a || b) (items_have_none (bug_object P) (bug_has_none P) r.bugs)
    (ap₂ (λ a b. a || (b || false)) (items_have_none (dropped_object P) (λ d. refl) r.dropped) (items_have_none (left_object P) (λ l. refl) r.left_out))

-- ---- how deep it is

items_at_most : {A : Type 0} (f : A → Data) (k : ℕ) → ((x : A) → depth (f x) ≤ k) → (xs : List A) → items_depth (items_of (map f xs)) ≤ k
items_at_most f k h [] = omega arith
items_at_most f k h (x ∷ xs) = omega (arith, h x, items_at_most f k h xs)

bug_depth : (P : ProgramTree) (b : Bug) → depth (bug_object P b) ≤ 3
bug_depth P b = omega (arith, items_at_most (mark_object P) 1 (λ m. omega arith) b.trace)

pub report_depth : (P : ProgramTree) (r : Report) → depth (report_object P r) ≤ max_depth
report_depth P r =
    omega (
      arith,
      items_at_most (bug_object P) 3 (bug_depth P) r.bugs,
      items_at_most (dropped_object P) 1 (λ d. omega arith) r.dropped,
      items_at_most (left_object P) 1 (λ l. omega arith) r.left_out,
    )
