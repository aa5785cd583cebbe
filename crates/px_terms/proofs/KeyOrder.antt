-- The order of monomials: by degree, then by their variables.
use Rattle.std.proofs.Common.{◌≡◌, ℕ, List, [], ◌∷◌, length, refl, ap, ap₂, sym, ◌∙◌}
use Rattle.std.specs.declared.cmp.Ordering.{Ordering}
use Rattle.std.specs.declared.cmp.Ordering.TheVariants.{Less, Equal, Greater}
use Rattle.std.specs.Ordering.{nat_cmp, ordering_then, ordering_reverse, on}
use Rattle.std.specs.Cmp.{IsTotalOrder}
use Rattle.std.specs.Cmp.Lexicographic.{slice_cmp}
use Rattle.std.proofs.lemmas.Cmp.{nat_cmp_total, nat_list_cmp_total, then_total, on_total, ranked, tied_itself}
use Rattle.px_terms.specs.Terms.{Term, key_cmp, Before}

pub key_total : IsTotalOrder key_cmp
key_total = then_total {R = on length nat_cmp} {S = slice_cmp nat_cmp} (on_total length nat_cmp_total) nat_list_cmp_total

pub equal_parts : (a b : Ordering) → ordering_then a b ≡ Equal → (a ≡ Equal) × (b ≡ Equal)
equal_parts Less b h = cc
equal_parts Equal b h = (refl, h)
equal_parts Greater b h = cc

lists_equal : (a b : List ℕ) → slice_cmp nat_cmp a b ≡ Equal → a ≡ b
lists_equal [] [] h = refl
lists_equal [] (y ∷ ys) h = cc
lists_equal (x ∷ xs) [] h = cc
lists_equal (x ∷ xs) (y ∷ ys) h =
    let parts = equal_parts (nat_cmp x y) (slice_cmp nat_cmp xs ys) h in
    ap₂ ◌∷◌ (ranked x y Equal (sym parts.0)) (lists_equal xs ys parts.1)

-- keys that are equal in the order are one
pub key_equal : (a b : List ℕ) → key_cmp a b ≡ Equal → a ≡ b
key_equal a b h = lists_equal a b (equal_parts (nat_cmp (length a) (length b)) (slice_cmp nat_cmp a b) h).1

pub key_itself : (k : List ℕ) → key_cmp k k ≡ Equal
key_itself k = tied_itself key_total k

pub key_turned : (a b : List ℕ) → key_cmp a b ≡ Greater → key_cmp b a ≡ Less
key_turned a b h = key_total.antisymm b a ∙ ap ordering_reverse h

-- what stands before the first stands before all that it stands before
pub before_later : (k m : List ℕ) (ts : List Term) → key_cmp k m ≡ Less → Before m ts → Before k ts
before_later k m [] h b = tt
before_later k m (t ∷ ts) h b = (key_total.trans k m t.vars h b.0, before_later k m ts h b.1)
