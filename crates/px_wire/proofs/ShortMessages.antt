-- What has room in a frame has terms that can be counted.
use Rattle.std.proofs.Common.{◌≡◌, ◌⊎◌, inl, inr, sym, subst, ap, ◌∙◌, arith, ℕ, ◌+◌, ◌≤◌, List, [], ◌∷◌, ◌++◌, length, length-append}
use Rattle.std.specs.Prelude.{if◌then◌else◌, Result, Ok, Err, IfOk}
use Rattle.std.specs.List.{flat_map}
use Rattle.std.proofs.lemmas.Bool.{ne_eqb}
use Rattle.px_frames.specs.Frames.{most_bytes}
use Rattle.px_terms.specs.Polynomials.{Polynomial}
use Rattle.px_spelling.specs.Numbers.{u32_bytes, IsU32}
use Rattle.px_spelling.specs.Lists.{list_bytes}
use Rattle.px_spelling.specs.Polynomials.{polynomial_bytes}
use Rattle.px_spelling.specs.ByPlace.{by_place}
use Rattle.px_wire.specs.Messages.{MessageTree, request, reply, large, fields_bytes, message_bytes}
use Rattle.px_wire.specs.Mentions.{terms_of}
use Rattle.px_wire.specs.Versions.{shared_bytes, bytes_in, HasVersion}

-- in a version that isn't 2
other_bytes : (number : ℕ) (m : MessageTree) → ¬ (number ≡ 2) → bytes_in number m ≡ message_bytes m
other_bytes number m other = ap (λ b. if b then shared_bytes m else message_bytes m) (ne_eqb number 2 other)

pub in_other_version : {B E : Type 0} (number : ℕ) (m : MessageTree) (items : B → List ℕ) (r : Result B E) → ¬ (number ≡ 2) → IfOk r (λ bytes. items bytes ≡ message_bytes m) → IfOk r (λ bytes. items bytes ≡ bytes_in number m)
in_other_version number m items (Ok bytes) other is = is ∙ sym (other_bytes number m other)
in_other_version number m items (Err e) other is = tt

-- ---- terms

-- each polynomial has bytes
as_long : (ts : List Polynomial) → length ts ≤ length (flat_map polynomial_bytes ts)
as_long [] = omega arith
as_long (t ∷ ts) =
    let rest : length ts ≤ length (flat_map polynomial_bytes ts) = as_long ts in
    let all : length (polynomial_bytes t ++ flat_map polynomial_bytes ts) ≡ length (polynomial_bytes t) + length (flat_map polynomial_bytes ts) = length-append (polynomial_bytes t) (flat_map polynomial_bytes ts) in
    let own : 1 ≤ length (polynomial_bytes t) = omega arith in
    omega (arith, all, own, rest)

few_of : (tag : ℕ) (ts : List Polynomial) (fields : List ℕ) → length (tag ∷ 2 ∷ (list_bytes polynomial_bytes ts ++ fields)) ≤ most_bytes → IsU32 (length ts)
few_of tag ts fields short =
    let long : length ts ≤ length (flat_map polynomial_bytes ts) = as_long ts in
    let all : length (list_bytes polynomial_bytes ts ++ fields) ≡ length (list_bytes polynomial_bytes ts) + length fields = length-append (list_bytes polynomial_bytes ts) fields in
    let listed : length (list_bytes polynomial_bytes ts) ≡ length (u32_bytes (length ts)) + length (flat_map polynomial_bytes ts) = length-append (u32_bytes (length ts)) (flat_map polynomial_bytes ts) in
    omega (arith, long, all, listed, short)

few_terms : (m : MessageTree) → length (shared_bytes m) ≤ most_bytes → IsU32 (length (terms_of m))
few_terms (request j) short = few_of 0 (terms_of (request j)) (fields_bytes (by_place (terms_of (request j))) (request j)) short
few_terms (reply ticket kinds table derivations) short =
    let m = reply ticket kinds table derivations in few_of 1 (terms_of m) (fields_bytes (by_place (terms_of m)) m) short
few_terms (large ticket) short = omega arith

-- A message that has room in a frame in version 1 or 2 has that version.
pub short_has_version : (number : ℕ) (m : MessageTree) → (number ≡ 1) ⊎ (number ≡ 2) → length (bytes_in number m) ≤ most_bytes → HasVersion number m
short_has_version number m (inl is) short = inl is
short_has_version number m (inr is) short = inr (is, few_terms m (subst (λ v. length (bytes_in v m) ≤ most_bytes) is short))
