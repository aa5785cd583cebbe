-- The bugs of a report are those of the entries of its tables.
use Rattle.std.proofs.Common.{◌≡◌, ◌⊎◌, ℕ, zero, suc, Bool, true, false, not, ◌&&◌, ◌||◌, nat_eq, List, [], ◌∷◌, ◌++◌, if◌then◌else◌, cond, refl, sym, ap, ap₂, ◌∙◌, inl, inr, arith}
use Rattle.std.specs.Prelude.{All, Contains, flat_map, filter, Option, Some, None, slice_get}
use Rattle.std.specs.List.{list_any}
use Rattle.std.proofs.lemmas.Bool.{and_parts, and_from, eqb-true, eq-eqb, or_left, or_right, not-true, not_from_false}
use Rattle.std.proofs.lemmas.List.Elements.{Contains-append_right, filter-append}
use Rattle.std.proofs.lemmas.List.Folds.{list_any-append}
use Rattle.std.proofs.lemmas.Option.{same_Some}
use Rattle.px_base.specs.declared.trace.Site.{Site}
use Rattle.px_base.specs.declared.trace.Kind.{Kind}
use Rattle.px_base.specs.declared.trace.Kind.TheVariants.{NullDereference, UseAfterFree, DoubleFree, UninitialisedRead, DivisionByZero}
use Rattle.px_entry.specs.declared.entries.Entry.{Entry}
use Rattle.px_entry.specs.declared.entries.Exit.{Exit}
use Rattle.px_entry.specs.declared.entries.Exit.TheVariants.{Ok, Error}
use Rattle.px_manifest.specs.LooksManifest.{looks_manifest}
use Rattle.px_entry.proofs.Lists.{Each, each_append, each_all}
use Rattle.px_text_report.specs.declared.shown.Bug.{Bug}
use Rattle.px_text_report.specs.Firsts.{others}
use Rattle.px_base.specs.declared.trace.ProcId.{ProcId}
use Rattle.px_text_report.specs.Known.{Known, tabled, left_out, known_at}
use Rattle.px_text_report.specs.Bugs.{same_kind, same_site, same_error, bug_with, bug_of, entry_bugs, has_error, is_inner, bugs_of, all_bugs}
use Rattle.px_text_report.specs.Laws.{HasBug, HasBugAt, BugsAreOfEntries}
use Rattle.px_text_report.proofs.FirstLemmas.{any_firsts}
use Rattle.px_callgraph.proofs.KeepLemmas.{each_weaker}

-- ---- the first of each kind

pub each_others : {A : Type 0} (P : A → Type 0) (same : A → A → Bool) (these xs : List A) → Each P xs → Each P (others same these xs)
each_others P same these [] h = tt
each_others P same these (x ∷ xs) h = by (list_any (same x) these) (each_others P same these xs h.1) (each_others P same (these ++ x ∷ []) xs h.1)
  where
    by : (b : Bool) → Each P (others same these xs) → Each P (others same (these ++ x ∷ []) xs) → Each P (if b then others same these xs else x ∷ others same (these ++ x ∷ []) xs)
    by true there not_there = there
    by false there not_there = (h.0, not_there)

-- ---- what an entry has

pub each_flat : {A B : Type 0} (P : B → Type 0) (f : A → List B) (xs : List A) → ((x : A) → Contains xs x → Each P (f x)) → Each P (flat_map f xs)
each_flat P f [] h = tt
each_flat P f (x ∷ xs) h = each_append P (f x) (flat_map f xs) (h x (zero, omega arith, refl)) (each_flat P f xs (λ y in_xs. h y (Contains-append_right (x ∷ []) xs y in_xs)))

has_bug : (x : Entry) → Each (HasBug x) (bug_of x)
has_bug x = by (looks_manifest x) refl
  where
    with_exit : looks_manifest x ≡ true → (e : Exit) → x.exit ≡ e → Each (HasBug x) (bug_with x e)
    with_exit looks Ok is = tt
    with_exit looks (Error kind site) is = (record { looks = looks; ends = is; proc = refl; trace = refl }, tt)

    by : (b : Bool) → looks_manifest x ≡ b → Each (HasBug x) (if b then bug_with x x.exit else [])
    by true is = with_exit is x.exit refl
    by false is = tt

pub each_filter : {A : Type 0} (P : A → Type 0) (test : A → Bool) (xs : List A) → Each P xs → Each (λ x. P x × (test x ≡ true)) (filter test xs)
each_filter P test [] h = tt
each_filter P test (x ∷ xs) h = by (test x) refl (each_filter P test xs h.1)
  where
    by : (b : Bool) → test x ≡ b → Each (λ x. P x × (test x ≡ true)) (filter test xs) → Each (λ x. P x × (test x ≡ true)) (cond b (x ∷ filter test xs) (filter test xs))
    by true is rest = ((h.0, is), rest)
    by false is rest = rest

-- ---- what is known of a procedure

-- what is known of one that has a number
pub contains_get : {A : Type 0} (xs : List A) (x : A) → Contains xs x → (n : ℕ) × (slice_get xs n ≡ Some x)
contains_get [] x (k, l, e) = let f : ⊥ = omega arith in absurd f
contains_get (y ∷ xs) x (zero, l, e) = (zero, ap Some e)
contains_get (y ∷ xs) x (suc k, l, e) = let r = contains_get xs x (k, omega arith, e) in (suc r.0, r.1)

-- a bug of a list is one that an entry has
module _ (parts : List Known) (n : ℕ) where
  each_has : (k : Known) → slice_get parts n ≡ Some k → Each (HasBugAt parts n) (entry_bugs k)
  each_has (tabled entries drops) at =
      each_flat (HasBugAt parts n) bug_of entries (λ x within. each_weaker (HasBug x) (HasBugAt parts n)
      (λ b h. record { entries = entries; drops = drops; table = at; entry = x; within = within; has = h }) (bug_of x) (has_bug x))
  each_has left_out at = tt

abbrev IsShown : List Known → Bug → Type 0
IsShown parts b = ((n : ℕ) × HasBugAt parts n b) × (is_inner parts b ≡ false)

shown_of : (parts : List Known) (k : Known) → Contains parts k → Each (IsShown parts) (bugs_of parts k)
shown_of parts k within =
    let at = contains_get parts k within in
    each_others (IsShown parts) same_error [] _ (each_weaker (λ b. HasBugAt parts at.0 b × (not (is_inner parts b) ≡ true)) (IsShown parts)
    (λ b h. ((at.0, h.0), not-true (is_inner parts b) h.1)) _ (each_filter (HasBugAt parts at.0) (λ b. not (is_inner parts b)) (entry_bugs k) (each_has parts at.0 k at.1)))

all_shown : (parts : List Known) → All (IsShown parts) (all_bugs parts)
all_shown parts = each_all (IsShown parts) (all_bugs parts) (each_flat (IsShown parts) (bugs_of parts) parts (shown_of parts))

-- ---- bugs of one kind at one site

pub kind_is : (a b : Kind) → same_kind a b ≡ true → a ≡ b
kind_is NullDereference NullDereference e = refl
kind_is UseAfterFree UseAfterFree e = refl
kind_is DoubleFree DoubleFree e = refl
kind_is UninitialisedRead UninitialisedRead e = refl
kind_is DivisionByZero DivisionByZero e = refl
kind_is NullDereference UseAfterFree e = cc
kind_is NullDereference DoubleFree e = cc
kind_is NullDereference UninitialisedRead e = cc
kind_is NullDereference DivisionByZero e = cc
kind_is UseAfterFree NullDereference e = cc
kind_is UseAfterFree DoubleFree e = cc
kind_is UseAfterFree UninitialisedRead e = cc
kind_is UseAfterFree DivisionByZero e = cc
kind_is DoubleFree NullDereference e = cc
kind_is DoubleFree UseAfterFree e = cc
kind_is DoubleFree UninitialisedRead e = cc
kind_is DoubleFree DivisionByZero e = cc
kind_is UninitialisedRead NullDereference e = cc
kind_is UninitialisedRead UseAfterFree e = cc
kind_is UninitialisedRead DoubleFree e = cc
kind_is UninitialisedRead DivisionByZero e = cc
kind_is DivisionByZero NullDereference e = cc
kind_is DivisionByZero UseAfterFree e = cc
kind_is DivisionByZero DoubleFree e = cc
kind_is DivisionByZero UninitialisedRead e = cc

kind_itself : (a : Kind) → same_kind a a ≡ true
kind_itself NullDereference = refl
kind_itself UseAfterFree = refl
kind_itself DoubleFree = refl
kind_itself UninitialisedRead = refl
kind_itself DivisionByZero = refl

pub site_is : (a b : Site) → same_site a b ≡ true → a ≡ b
site_is a b e =
    let p = and_parts (nat_eq a.file b.file) (nat_eq a.line b.line && nat_eq a.column b.column) e in
    let q = and_parts (nat_eq a.line b.line) (nat_eq a.column b.column) p.1 in
    ap (λ n. record { file = n; line = a.line; column = a.column }) (eqb-true a.file b.file p.0)
    ∙ ap (λ n. record { file = b.file; line = n; column = a.column }) (eqb-true a.line b.line q.0)
    ∙ ap (λ n. record { file = b.file; line = b.line; column = n }) (eqb-true a.column b.column q.1)

site_itself : (a : Site) → same_site a a ≡ true
site_itself a =
    and_from (nat_eq a.file a.file) (nat_eq a.line a.line && nat_eq a.column a.column) (eq-eqb a.file a.file refl)
    (and_from (nat_eq a.line a.line) (nat_eq a.column a.column) (eq-eqb a.line a.line refl) (eq-eqb a.column a.column refl))

abbrev HasError : Kind → Site → List Bug → Bool
HasError k s bugs = list_any (λ y. same_kind k y.kind && same_site s y.site) bugs

-- where one is there, one of the same error is
pub same_there : (b x : Bug) (these : List Bug) → same_error b x ≡ true → list_any (same_error x) these ≡ true → list_any (same_error b) these ≡ true
same_there b x these e there =
    let p = and_parts (same_kind b.kind x.kind) (same_site b.site x.site) e in
    ap₂ (λ k s. HasError k s these) (kind_is b.kind x.kind p.0) (site_is b.site x.site p.1) ∙ there

-- ---- none is lost

module _ (b : Bug) where
  abbrev has : List Bug → Bool
  has xs = list_any (same_error b) xs

  in_both : (xs ys : List Bug) → (has xs ≡ true) ⊎ (has ys ≡ true) → has (xs ++ ys) ≡ true
  in_both xs ys (inl e) = list_any-append (same_error b) xs ys ∙ or_left (has xs) (has ys) e
  in_both xs ys (inr e) = list_any-append (same_error b) xs ys ∙ or_right (has xs) (has ys) e

  own_bug : (x : Entry) → HasBug x b → has (bug_of x) ≡ true
  own_bug x h =
      ap (λ q. has (if q then bug_with x x.exit else [])) h.looks
      ∙ ap (λ e. has (bug_with x e)) h.ends
      ∙ or_left (same_kind b.kind b.kind && same_site b.site b.site) false (and_from _ _ (kind_itself b.kind) (site_itself b.site))

  of_entry : (entries : List Entry) (x : Entry) → Contains entries x → HasBug x b → has (flat_map bug_of entries) ≡ true
  of_entry [] x (k, l, e) h = let f : ⊥ = omega arith in absurd f
  of_entry (y ∷ entries) x (zero, l, e) h = in_both (bug_of y) (flat_map bug_of entries) (inl (ap (λ z. has (bug_of z)) e ∙ own_bug x h))
  of_entry (y ∷ entries) x (suc k, l, e) h = in_both (bug_of y) (flat_map bug_of entries) (inr (of_entry entries x (k, omega arith, e) h))

  -- where an entry has it, its bug is this one
  bug_is : (x : Entry) → HasBug x b → bug_of x ≡ b ∷ []
  bug_is x h =
      ap (λ q. if q then bug_with x x.exit else []) h.looks
      ∙ ap (bug_with x) h.ends
      ∙ ap₂ (λ p t. record { proc = p; kind = b.kind; site = b.site; trace = t } ∷ []) (sym h.proc) (sym h.trace)

  itself : same_error b b ≡ true
  itself = and_from _ _ (kind_itself b.kind) (site_itself b.site)

  -- one that passes a test is among those that pass it
  of_passing : (test : Bug → Bool) → test b ≡ true → (entries : List Entry) (x : Entry) → Contains entries x → HasBug x b → has (filter test (flat_map bug_of entries)) ≡ true
  of_passing test passes [] x (k, l, e) h = let f : ⊥ = omega arith in absurd f
  of_passing test passes (y ∷ entries) x (zero, l, e) h =
      ap has (filter-append test (bug_of y) (flat_map bug_of entries))
      ∙ in_both (filter test (bug_of y)) (filter test (flat_map bug_of entries))
      (inl (ap (λ z. has (filter test (bug_of z))) e ∙ ap (λ z. has (filter test z)) (bug_is x h) ∙ ap (λ q. has (cond q (b ∷ []) [])) passes ∙ or_left (same_error b b) false itself))
  of_passing test passes (y ∷ entries) x (suc k, l, e) h =
      ap has (filter-append test (bug_of y) (flat_map bug_of entries))
      ∙ in_both (filter test (bug_of y)) (filter test (flat_map bug_of entries)) (inr (of_passing test passes entries x (k, omega arith, e) h))

  in_flat : {A : Type 0} (f : A → List Bug) (xs : List A) (n : ℕ) (x : A) → slice_get xs n ≡ Some x → has (f x) ≡ true → has (flat_map f xs) ≡ true
  in_flat f [] n x e there = cc
  in_flat f (y ∷ xs) zero x e there = in_both (f y) (flat_map f xs) (inl (ap (λ z. has (f z)) (same_Some y x e) ∙ there))
  in_flat f (y ∷ xs) (suc n) x e there = in_both (f y) (flat_map f xs) (inr (in_flat f xs n x e there))

  of_part : (parts : List Known) (n : ℕ) (h : HasBugAt parts n b) → is_inner parts b ≡ false → has (bugs_of parts (tabled h.entries h.drops)) ≡ true
  of_part parts n h outer =
      any_firsts same_error b (same_there b) (filter (λ y. not (is_inner parts y)) (flat_map bug_of h.entries))
      ∙ of_passing (λ y. not (is_inner parts y)) (not_from_false (is_inner parts b) outer) h.entries h.entry h.within h.has

-- ---- the errors that a procedure has

known_some : (parts : List Known) (n : ℕ) (k : Known) → slice_get parts n ≡ Some k → known_at parts n ≡ k
known_some [] n k e = cc
known_some (y ∷ parts) zero k e = same_Some y k e
known_some (y ∷ parts) (suc n) k e = known_some parts n k e

known_none : (parts : List Known) (n : ℕ) → slice_get parts n ≡ None → known_at parts n ≡ left_out
known_none [] n e = refl
known_none (y ∷ parts) zero e = cc
known_none (y ∷ parts) (suc n) e = known_none parts n e

any_each : {A : Type 0} (P : A → Type 0) (test : A → Bool) (xs : List A) → Each P xs → list_any test xs ≡ true → (x : A) × P x × (test x ≡ true)
any_each P test [] h e = cc
any_each P test (x ∷ xs) h e = by (test x) refl (any_each P test xs h.1)
  where
    by : (q : Bool) → test x ≡ q → (list_any test xs ≡ true → (y : _) × P y × (test y ≡ true)) → (y : _) × P y × (test y ≡ true)
    by true is rest = (x, h.0, is)
    by false is rest = rest (ap (λ z. z || list_any test xs) (sym is) ∙ e)

error_of_entry : (parts : List Known) (g : ProcId) (b : Bug) → has_error parts g b ≡ true → (c : Bug) × HasBugAt parts g.0 c × (same_error b c ≡ true)
error_of_entry parts g b e = by (slice_get parts g.0) refl
  where
    by : (k : Option Known) → slice_get parts g.0 ≡ k → (c : Bug) × HasBugAt parts g.0 c × (same_error b c ≡ true)
    by (Some k) at = any_each (HasBugAt parts g.0) (same_error b) (entry_bugs k) (each_has parts g.0 k at) (ap (λ z. list_any (same_error b) (entry_bugs z)) (sym (known_some parts g.0 k at)) ∙ e)
    by None at = absurd (none (ap (λ z. list_any (same_error b) (entry_bugs z)) (sym (known_none parts g.0 at)) ∙ e))
      where
        none : false ≡ true → ⊥
        none f = cc

entry_has_error : (parts : List Known) (g : ProcId) (b c : Bug) → HasBugAt parts g.0 c → same_error b c ≡ true → has_error parts g b ≡ true
entry_has_error parts g b c h same =
    ap (λ k. list_any (same_error b) (entry_bugs k)) (known_some parts g.0 _ h.table)
    ∙ same_there b c (flat_map bug_of h.entries) same (of_entry c h.entries h.entry h.within h.has)

pub bugs_of_entries : BugsAreOfEntries
bugs_of_entries = record {
  sound = all_shown;
  complete = λ parts n b h outer. of_part b parts n h outer;
  shown = λ parts n b h outer. in_flat b (bugs_of parts) parts n _ h.table (of_part b parts n h outer);
  of_entry = error_of_entry;
  has = entry_has_error;
}
