-- One step more of the lists that the code makes.
use Rattle.std.proofs.Common.{◌≡◌, ℕ, ◌<◌, ◌||◌, Bool, true, false, cond, not, if◌then◌else◌, List, [], ◌∷◌, ◌++◌, map, length, get_or, None, refl, sym, ap, ap₂, ◌∙◌, subst, append_assoc, append-nil}
use Rattle.std.specs.Prelude.{filter}
use Rattle.std.specs.List.{list_any}
use Rattle.std.proofs.lemmas.List.{map-append}
use Rattle.std.proofs.lemmas.List.Folds.{list_any-append}
use Rattle.px_base.specs.declared.trace.Site.{Site}
use Rattle.px_entry.specs.declared.atoms.Atom.{Atom}
use Rattle.px_entry.specs.declared.entries.Entry.{Entry}
use Rattle.px_text_report.specs.Firsts.{others}
use Rattle.px_text_report.proofs.FirstLemmas.{others_more}
use Rattle.px_leak.specs.declared.got.GotBlock.{GotBlock}
use Rattle.px_leak.specs.declared.told.Leak.{Leak}
use Rattle.px_leak.specs.Losses.{is_live_at}
use Rattle.px_leak.specs.Leaks.{leak_at, same_leak, leaks_there, is_outer}
use Rattle.px_leak.specs.Lives.{AreLives}

-- what a read beyond the last block would give
abbrev pub no_block : GotBlock
no_block = record { place = 0; site = record { file = 0; line = 0; column = 0 }; call = None }

-- ---- filters

pub filter_first : {A : Type 0} (test : A → Bool) (x : A) (xs : List A) → filter test (x ∷ xs) ≡ filter test (x ∷ []) ++ filter test xs
filter_first test x xs = by (test x)
  where
    by : (b : Bool) → cond b (x ∷ filter test xs) (filter test xs) ≡ cond b (x ∷ []) [] ++ filter test xs
    by true = refl
    by false = refl

pub filter_more : {A : Type 0} (test : A → Bool) (these new : List A) (x : A) (xs all : List A) → new ≡ these ++ filter test (x ∷ []) → these ++ filter test (x ∷ xs) ≡ all → new ++ filter test xs ≡ all
filter_more test these new x xs all e whole =
    ap (λ z. z ++ filter test xs) e ∙ append_assoc these (filter test (x ∷ [])) (filter test xs) ∙ ap (λ z. these ++ z) (sym (filter_first test x xs)) ∙ whole

-- ---- live blocks

pub lives_more : (n : ℕ) (xs : List Atom) (a : Atom) (old new : List Bool) → AreLives n xs old → length new ≡ length old →
    ((v : ℕ) → v < length old → get_or new v false ≡ (get_or old v false || is_live_at v a)) → AreLives n (xs ++ a ∷ []) new
lives_more n xs a old new h size marks = record {
  size = size ∙ h.size;
  each = λ v l.
      let within : v < length old = subst (λ k. v < k) (sym h.size) l in
      marks v within ∙ ap (λ b. b || is_live_at v a) (h.each v l) ∙ by (is_live_at v a) (list_any (is_live_at v) xs) ∙ sym (list_any-append (is_live_at v) xs (a ∷ []));
}
  where
    by : (p q : Bool) → (q || p) ≡ (q || (p || false))
    by true true = refl
    by true false = refl
    by false true = refl
    by false false = refl

-- ---- leaks

module _ (x : Entry) (blocks : ℕ) (sites : List (List Site)) where
  abbrev of_blocks : List GotBlock → List Leak
  of_blocks gs = map (leak_at x blocks) (filter (is_outer sites) gs)

  pub of_first : (g : GotBlock) (gs : List GotBlock) → of_blocks (g ∷ gs) ≡ of_blocks (g ∷ []) ++ of_blocks gs
  of_first g gs = ap (map (leak_at x blocks)) (filter_first (is_outer sites) g gs) ∙ map-append (leak_at x blocks) (filter (is_outer sites) (g ∷ [])) (filter (is_outer sites) gs)

  pub leaks_more : (these new : List Leak) (g : GotBlock) (gs : List GotBlock) (all : List Leak) → new ≡ these ++ others same_leak these (of_blocks (g ∷ [])) →
      these ++ others same_leak these (of_blocks (g ∷ gs)) ≡ all → new ++ others same_leak new (of_blocks gs) ≡ all
  leaks_more these new g gs all e whole =
      others_more same_leak these new (of_blocks (g ∷ [])) (of_blocks gs) all e (ap (λ ls. these ++ others same_leak these ls) (sym (of_first g gs)) ∙ whole)

  module _ (these : List Leak) (g : GotBlock) where
    abbrev added : Bool → Bool → List Leak
    added inner there = if not inner then (if there then [] else leak_at x blocks g ∷ []) else []

    added_is : others same_leak these (of_blocks (g ∷ [])) ≡ added (leaks_there sites g.site g.call) (list_any (same_leak (leak_at x blocks g)) these)
    added_is = by (leaks_there sites g.site g.call)
      where
        by : (inner : Bool) → others same_leak these (map (leak_at x blocks) (cond (not inner) (g ∷ []) [])) ≡ added inner (list_any (same_leak (leak_at x blocks g)) these)
        by true = refl
        by false = refl

    pub inner_not_added : leaks_there sites g.site g.call ≡ true → these ≡ these ++ others same_leak these (of_blocks (g ∷ []))
    inner_not_added e = sym (append-nil these) ∙ ap (λ z. these ++ z) (sym (added_is ∙ ap (λ b. added b (list_any (same_leak (leak_at x blocks g)) these)) e))

    pub there_not_added : list_any (same_leak (leak_at x blocks g)) these ≡ true → these ≡ these ++ others same_leak these (of_blocks (g ∷ []))
    there_not_added e = sym (append-nil these) ∙ ap (λ z. these ++ z) (sym (added_is ∙ ap (added (leaks_there sites g.site g.call)) e ∙ by (leaks_there sites g.site g.call)))
      where
        by : (inner : Bool) → added inner true ≡ []
        by true = refl
        by false = refl

    pub one_added : (new : List Leak) → leaks_there sites g.site g.call ≡ false → list_any (same_leak (leak_at x blocks g)) these ≡ false → new ≡ these ++ leak_at x blocks g ∷ [] →
        new ≡ these ++ others same_leak these (of_blocks (g ∷ []))
    one_added new inner there e = e ∙ ap (λ z. these ++ z) (sym (added_is ∙ ap₂ added inner there))
