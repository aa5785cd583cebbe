-- What is said of all variables that the parts of an entry use.
use Rattle.std.proofs.Common.{◌≡◌, ◌∙◌, ℕ, List, ◌++◌, Bool, true, ◌&&◌, ap, sym}
use Rattle.std.specs.Prelude.{flat_map}
use Rattle.std.specs.List.{list_all}
use Rattle.std.proofs.lemmas.List.Folds.{list_all-append}
use Rattle.px_terms.specs.declared.conjuncts.Content.{Content}
use Rattle.px_entry.specs.declared.entries.Entry.{Entry}
use Rattle.px_entry.specs.Contents.{content_variables}
use Rattle.px_entry.specs.Regular.{used_by_conjunct, used_by_atom, used_by_result, used_variables}
use Rattle.px_entry.proofs.Lists.{all_of_each}

-- of the place of an atom, and of its contents
pub of_atom : (test : ℕ → Bool) (x : ℕ) (cells : List Content) (a b : Bool) → a ≡ true → a ≡ test x → b ≡ list_all (λ c. list_all test (content_variables c)) cells →
    b ≡ (test x && list_all test (flat_map content_variables cells))
of_atom test x cells a b t e h =
    h
    ∙ sym (all_of_each test content_variables cells)
    ∙ ap (λ z. z && list_all test (flat_map content_variables cells)) (sym t ∙ e)

of_more : {A : Type 0} (test : ℕ → Bool) (f : A → List ℕ) (before : List ℕ) (xs : List A) (b : Bool) → list_all test before ≡ b →
    list_all test (before ++ flat_map f xs) ≡ (b && list_all (λ x. list_all test (f x)) xs)
of_more test f before xs b h =
    list_all-append test before (flat_map f xs)
    ∙ ap (λ z. z && list_all test (flat_map f xs)) h
    ∙ ap (λ z. b && z) (all_of_each test f xs)

-- of all parts
pub of_entry : (test : ℕ → Bool) (e : Entry) → list_all test (used_variables e)
    ≡ (list_all (λ c. list_all test (used_by_conjunct c)) e.pure
    && list_all (λ a. list_all test (used_by_atom a)) e.pre
    && list_all (λ a. list_all test (used_by_atom a)) e.post
    && list_all test (used_by_result e.result))
of_entry test e =
    let one = flat_map used_by_conjunct e.pure in
    let two = one ++ flat_map used_by_atom e.pre in
    let are_one = list_all (λ c. list_all test (used_by_conjunct c)) e.pure in
    let are_two = are_one && list_all (λ a. list_all test (used_by_atom a)) e.pre in
    list_all-append test (two ++ flat_map used_by_atom e.post) (used_by_result e.result)
    ∙ ap (λ z. z && list_all test (used_by_result e.result))
    (of_more test used_by_atom two e.post are_two (of_more test used_by_atom one e.pre are_one (all_of_each test used_by_conjunct e.pure)))
