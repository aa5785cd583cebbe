-- Reports that are one object are one text.
use Rattle.std.proofs.Common.{◌≡◌, ℕ, zero, suc, List, [], ◌∷◌, ◌++◌, length, map, codes, refl, sym, ap, ap₂, ◌∙◌}
use Rattle.std.specs.Prelude.{Option, None, Some}
use Rattle.std.specs.Fmt.{decimal}
use Rattle.std.specs.Str.{IsUtf8}
use Rattle.std.specs.Str.Lossy.{utf8_lossy}
use Rattle.std.proofs.lemmas.Str.{IsUtf8-append, utf8_lossy-IsUtf8}
use Rattle.serde_json.specs.Data.{Num, unsigned, Data, null, number, string, array, object, Items, no_items, item, Members, no_members, member}
use Rattle.px_base.specs.declared.trace.ProcId.{ProcId}
use Rattle.px_base.specs.declared.trace.Site.{Site}
use Rattle.px_base.specs.declared.trace.Kind.{Kind}
use Rattle.px_base.specs.declared.trace.Kind.TheVariants as kind
use Rattle.px_base.specs.declared.trace.Mark.{Mark}
use Rattle.px_base.specs.declared.trace.MarkKind.{MarkKind}
use Rattle.px_base.specs.declared.trace.MarkKind.TheVariants as mark
use Rattle.px_entry.proofs.Lists.{Each, all_each}
use Rattle.px_syntax.specs.declared.program.Left.{Left}
use Rattle.px_syntax.specs.ProgramTree.{ProgramTree}
use Rattle.px_text_report.specs.declared.shown.Bug.{Bug}
use Rattle.px_text_report.specs.declared.drops.Dropped.{Dropped}
use Rattle.px_text_report.specs.declared.reports.Report.{Report}
use Rattle.px_text_report.specs.Places.{line_feed, name_at, place_text}
use Rattle.px_text_report.specs.BugTexts.{kind_text, mark_text, mark_line, mark_lines, bug_text, bug_texts}
use Rattle.px_text_report.specs.LeftOut.{left_name, left_line, left_lines}
use Rattle.px_text_report.specs.Reports.{dropped_line, dropped_lines, report_text}
use Rattle.px_report.specs.Json.{json_list, json_text, mark_object, bug_object, dropped_object, left_object, report_object}
use Rattle.px_report.specs.Laws.{FormsAgree}

-- ---- what stands in an object

-- the value of its member with this number
abbrev member_at : ℕ → Members → Data
member_at n no_members = null
member_at zero (member k d ms) = d
member_at (suc n) (member k d ms) = member_at n ms

abbrev field : ℕ → Data → Data
field n (object ms) = member_at n ms
field n _ = null

abbrev text_in : Data → List ℕ
text_in (string s) = s
text_in _ = []

abbrev number_from : Num → ℕ
number_from (unsigned n) = n
number_from _ = 0

abbrev number_in : Data → ℕ
number_in (number n) = number_from n
number_in _ = 0

abbrev list_from : Items → List Data
list_from no_items = []
list_from (item d ds) = d ∷ list_from ds

abbrev list_in : Data → List Data
list_in (array ds) = list_from ds
list_in _ = []

listed : (ds : List Data) → list_in (json_list ds) ≡ ds
listed [] = refl
listed (d ∷ ds) = ap (λ z. d ∷ z) (listed ds)

same_list : {A : Type 0} (f : A → Data) (xs ys : List A) (d e : Data) → d ≡ json_list (map f xs) → e ≡ json_list (map f ys) → d ≡ e → map f xs ≡ map f ys
same_list f xs ys d e is its same = sym (listed (map f xs)) ∙ ap list_in (sym is ∙ same ∙ its) ∙ listed (map f ys)

abbrev head_or : Data → List Data → Data
head_or d [] = d
head_or d (x ∷ xs) = x

abbrev tail_of : List Data → List Data
tail_of [] = []
tail_of (x ∷ xs) = xs

same_length : {A : Type 0} (f : A → Data) (xs ys : List A) → map f xs ≡ map f ys → length xs ≡ length ys
same_length f [] [] e = refl
same_length f [] (y ∷ ys) e = cc
same_length f (x ∷ xs) [] e = cc
same_length f (x ∷ xs) (y ∷ ys) e = ap suc (same_length f xs ys (ap tail_of e))

-- lines of items that are the same as data
same_lines : {A : Type 0} (P : A → Type 0) (f : A → Data) (lines : List A → List ℕ) (line : A → List ℕ) →
    ((x : A) (xs : List A) → lines (x ∷ xs) ≡ line x ++ lines xs) → ((x y : A) → P x → P y → f x ≡ f y → line x ≡ line y) →
    (xs ys : List A) → Each P xs → Each P ys → map f xs ≡ map f ys → lines xs ≡ lines ys
same_lines P f lines line more one [] [] p q e = refl
same_lines P f lines line more one [] (y ∷ ys) p q e = cc
same_lines P f lines line more one (x ∷ xs) [] p q e = cc
same_lines P f lines line more one (x ∷ xs) (y ∷ ys) p q e =
    more x xs
    ∙ ap₂ (λ a b. a ++ b) (one x y p.0 q.0 (ap (head_or null) e)) (same_lines P f lines line more one xs ys p.1 q.1 (ap tail_of e))
    ∙ sym (more y ys)

-- ---- texts

same_bytes : (a b : List ℕ) → IsUtf8 a → IsUtf8 b → utf8_lossy a ≡ utf8_lossy b → a ≡ b
same_bytes a b p q e = sym (utf8_lossy-IsUtf8 a p) ∙ e ∙ utf8_lossy-IsUtf8 b q

-- of two members that are texts
same_text : (n : ℕ) (a b : List ℕ) (d e : Data) → IsUtf8 a → IsUtf8 b → field n d ≡ json_text a → field n e ≡ json_text b → d ≡ e → a ≡ b
same_text n a b d e p q is its same = same_bytes a b p q (ap text_in (sym is ∙ ap (field n) same ∙ its))

utf8_names : (names : List (List ℕ)) → Each IsUtf8 names → (n : ℕ) → IsUtf8 (name_at names n)
unfolding lib.Utf8.encode
utf8_names [] h n = (codes "(none)", (refl, refl))
utf8_names (x ∷ names) h zero = h.0
utf8_names (x ∷ names) h (suc n) = utf8_names names h.1 n

utf8_kind : (k : Kind) → IsUtf8 (kind_text k)
unfolding lib.Utf8.encode
utf8_kind kind.NullDereference = (codes "null dereference", (refl, refl))
utf8_kind kind.UseAfterFree = (codes "use after free", (refl, refl))
utf8_kind kind.DoubleFree = (codes "double free", (refl, refl))
utf8_kind kind.UninitialisedRead = (codes "uninitialised read", (refl, refl))
utf8_kind kind.DivisionByZero = (codes "division by zero", (refl, refl))

utf8_mark : (names : List (List ℕ)) → Each IsUtf8 names → (m : MarkKind) → IsUtf8 (mark_text names m)
unfolding lib.Utf8.encode
utf8_mark names h mark.Then = (codes "true", (refl, refl))
utf8_mark names h mark.Else = (codes "false", (refl, refl))
utf8_mark names h mark.Iter = (codes "iteration", (refl, refl))
utf8_mark names h mark.Done = (codes "loop left", (refl, refl))
utf8_mark names h mark.Got = (codes "allocated", (refl, refl))
utf8_mark names h mark.NoBlock = (codes "allocation failed", (refl, refl))
utf8_mark names h mark.Input = (codes "input", (refl, refl))
utf8_mark names h mark.Access = (codes "access", (refl, refl))
utf8_mark names h mark.Freed = (codes "free", (refl, refl))
utf8_mark names h mark.FreeNull = (codes "free of null", (refl, refl))
utf8_mark names h (mark.Enter g) = IsUtf8-append (codes "call ") (name_at names g.0) (codes "call ", (refl, refl)) (utf8_names names h g.0)
utf8_mark names h mark.Leave = (codes "return", (refl, refl))

-- ---- of a program whose names are UTF-8

module _ (P : ProgramTree) (names : Each IsUtf8 P.names) (files : Each IsUtf8 P.files) where
  -- two places whose file, line and column are members with these numbers
  same_place : (f l c : ℕ) (s t : Site) (d e : Data) →
      field f d ≡ json_text (name_at P.files s.file) → field f e ≡ json_text (name_at P.files t.file) →
      number_in (field l d) ≡ s.line → number_in (field l e) ≡ t.line → number_in (field c d) ≡ s.column → number_in (field c e) ≡ t.column →
      d ≡ e → place_text P.files s ≡ place_text P.files t
  same_place f l c s t d e f1 f2 l1 l2 c1 c2 same =
      ap₂ (λ x y. x ++ (codes ":" ++ y))
      (same_text f _ _ d e (utf8_names P.files files s.file) (utf8_names P.files files t.file) f1 f2 same)
      (ap₂ (λ x y. decimal x ++ (codes ":" ++ decimal y)) (sym l1 ∙ ap (λ z. number_in (field l z)) same ∙ l2) (sym c1 ∙ ap (λ z. number_in (field c z)) same ∙ c2))

  same_name : (n f g : ℕ) (d e : Data) → field n d ≡ json_text (name_at P.names f) → field n e ≡ json_text (name_at P.names g) → d ≡ e → name_at P.names f ≡ name_at P.names g
  same_name n f g d e f1 f2 same = same_text n _ _ d e (utf8_names P.names names f) (utf8_names P.names names g) f1 f2 same

  one_mark : (m n : Mark) → mark_object P m ≡ mark_object P n → mark_line P m ≡ mark_line P n
  one_mark m n e =
      ap₂ (λ x y. codes "  " ++ (x ++ (codes ": " ++ (y ++ line_feed))))
      (same_place 1 2 0 m.site n.site (mark_object P m) (mark_object P n) refl refl refl refl refl refl e)
      (same_text 3 _ _ (mark_object P m) (mark_object P n) (utf8_mark P.names names m.kind) (utf8_mark P.names names n.kind) refl refl e)

  each_any : {A : Type 0} (xs : List A) → Each (λ x. Unit {0}) xs
  each_any [] = tt
  each_any (x ∷ xs) = (tt, each_any xs)

  one_bug : (a b : Bug) → bug_object P a ≡ bug_object P b → bug_text P a ≡ bug_text P b
  one_bug a b e =
      let place = same_place 1 3 0 a.site b.site (bug_object P a) (bug_object P b) refl refl refl refl refl refl e in
      let kinds = same_text 2 _ _ (bug_object P a) (bug_object P b) (utf8_kind a.kind) (utf8_kind b.kind) refl refl e in
      let procedures = same_name 4 a.proc.0 b.proc.0 (bug_object P a) (bug_object P b) refl refl e in
      let marks = same_list (mark_object P) a.trace b.trace _ _ refl refl (ap (field 5) e) in
      let lines = same_lines (λ m. Unit {0}) (mark_object P) (mark_lines P) (mark_line P) (λ m trace. refl) (λ m n p q. one_mark m n) a.trace b.trace (each_any a.trace) (each_any b.trace) marks in
      ap₂ (λ x y. x ++ (codes ": " ++ y)) place (ap₂ (λ x y. x ++ (codes " in " ++ y)) kinds (ap₂ (λ x y. x ++ (line_feed ++ y)) procedures lines))

  one_dropped : (a b : Dropped) → IsUtf8 a.cause → IsUtf8 b.cause → dropped_object P a ≡ dropped_object P b → dropped_line P.names a ≡ dropped_line P.names b
  one_dropped a b p q e =
      let causes = same_text 0 _ _ (dropped_object P a) (dropped_object P b) p q refl refl e in
      let procedures = same_name 2 a.proc.0 b.proc.0 (dropped_object P a) (dropped_object P b) refl refl e in
      ap₂ (λ x y. codes "dropped " ++ (x ++ (codes ": " ++ y))) procedures
      (ap₂ (λ x y. x ++ (codes ", " ++ (decimal y ++ line_feed))) causes (ap (λ z. number_in (field 1 z)) e))

  utf8_left : (l : Left) → IsUtf8 (left_name P.names l.proc)
  unfolding lib.Utf8.encode
  utf8_left l = by l.proc
    where
      by : (o : Option ProcId) → IsUtf8 (left_name P.names o)
      by None = (codes "(item)", (refl, refl))
      by (Some f) = utf8_names P.names names f.0

  one_left : (a b : Left) → IsUtf8 a.word → IsUtf8 b.word → left_object P a ≡ left_object P b → left_line P a ≡ left_line P b
  one_left a b p q e =
      let place = same_place 1 2 0 a.site b.site (left_object P a) (left_object P b) refl refl refl refl refl refl e in
      let their_names = same_text 3 _ _ (left_object P a) (left_object P b) (utf8_left a) (utf8_left b) refl refl e in
      let words = same_text 4 _ _ (left_object P a) (left_object P b) p q refl refl e in
      ap₂ (λ x y. codes "left out " ++ (x ++ (codes " at " ++ y))) their_names (ap₂ (λ x y. x ++ (codes ": " ++ (y ++ line_feed))) place words)

  one_report : (r q : Report) → Each (λ (d : Dropped). IsUtf8 d.cause) r.dropped → Each (λ (d : Dropped). IsUtf8 d.cause) q.dropped →
      Each (λ (l : Left). IsUtf8 l.word) r.left_out → Each (λ (l : Left). IsUtf8 l.word) q.left_out →
      report_object P r ≡ report_object P q → report_text P r ≡ report_text P q
  one_report r q d1 d2 l1 l2 e =
      let bugs = same_list (bug_object P) r.bugs q.bugs _ _ refl refl (ap (field 0) e) in
      let dropped = same_list (dropped_object P) r.dropped q.dropped _ _ refl refl (ap (field 1) e) in
      let left = same_list (left_object P) r.left_out q.left_out _ _ refl refl (ap (field 2) e) in
      let numbers = ap₂ (λ x y. codes "procedures " ++ (decimal x ++ (codes ", left out " ++ y))) (ap (λ z. number_in (field 3 z)) e)
      (ap₂ (λ x y. decimal x ++ (codes ", bugs " ++ (decimal y ++ line_feed))) (same_length (left_object P) r.left_out q.left_out left) (same_length (bug_object P) r.bugs q.bugs bugs)) in
      ap₂ (λ x y. x ++ y) (same_lines (λ b. Unit {0}) (bug_object P) (bug_texts P) (bug_text P) (λ b rest. refl) (λ a b p o. one_bug a b) r.bugs q.bugs (each_any r.bugs) (each_any q.bugs) bugs)
      (ap₂ (λ x y. x ++ y) (same_lines _ (left_object P) (left_lines P) (left_line P) (λ l rest. refl) one_left r.left_out q.left_out l1 l2 left)
      (ap₂ (λ x y. x ++ y) (same_lines _ (dropped_object P) (dropped_lines P.names) (dropped_line P.names) (λ d rest. refl) one_dropped r.dropped q.dropped d1 d2 dropped) numbers))

pub forms_agreement : FormsAgree
forms_agreement P r q names files a b e =
    one_report P (all_each _ P.names names) (all_each _ P.files files) r q (all_each _ r.dropped a.causes) (all_each _ q.dropped b.causes) (all_each _ r.left_out a.words) (all_each _ q.left_out b.words) e
