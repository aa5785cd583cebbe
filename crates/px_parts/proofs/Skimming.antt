-- What comes at a place is all that is due there, so bytes that were passed over tell whether it may come.
use Rattle.std.proofs.Common.{◌≡◌, ◌≢◌, ℕ, ◌-◌, ◌≤◌, List, [], ◌∷◌, ◌++◌, length, Option, None, true, false, refl, sym, ap, subst, ◌∙◌, append_assoc, arith}
use Rattle.std.specs.Prelude.{take, drop}
use Rattle.std.proofs.lemmas.List.{take_all, length-drop, drop-append-le, length-append, append_cancel_right}
use Rattle.px_spelling.specs.Numbers.{u8_bytes, u32_bytes, u64_bytes}
use Rattle.px_spelling.specs.Lists.{list_bytes}
use Rattle.px_spelling.specs.Polynomials.{polynomial_bytes}
use Rattle.px_parts.specs.declared.part.Part.{Part}
use Rattle.px_parts.specs.declared.form.Form.TheVariants as F
use Rattle.px_parts.specs.declared.form.Due.{Due}
use Rattle.px_parts.specs.declared.skim.Skim.{Skim}
use Rattle.px_parts.specs.Places.{Place, Start, Head, ListedHead, Large, EntryCount, Entries, DropCount, Drops, DerivationCount, Derivations, Over, IsOpened, opening_bytes}
use Rattle.px_parts.specs.Stream.{IsSender, sender_bytes, Comes, opening, head, listed_head, too_large, entry_count, entry, all_entries, drop_count, a_drop, all_drops, derivation_count, derivation, all_derivations, IsStuck}
use Rattle.px_parts.specs.Forms.{due, next, Passes, stands, dues_at}
use Rattle.px_parts.specs.Skims.{IsSkim, IsEnded}
use Rattle.px_parts.proofs.Passing.{passes_more, passes_then, one_end, is_rest}
use Rattle.px_parts.proofs.Filling.{AreDue, one_fills, two_fill, then_due, last_due}
use Rattle.px_parts.proofs.FormsOf.{byte_form, word_form, ticket_form, kinds_form, polynomials_form, entry_is_due, drop_is_due, derivation_due}

opening_due : (q : Place) → IsOpened q → AreDue (dues_at Start) (opening_bytes q)
opening_due Start fits = absurd fits
opening_due Head fits = last_due F.Byte 2 (1 ∷ 1 ∷ []) (two_fill F.Byte (1 ∷ []) (1 ∷ []) (byte_form 1) (byte_form 1))
opening_due ListedHead fits = last_due F.Byte 2 (1 ∷ 2 ∷ []) (two_fill F.Byte (1 ∷ []) (2 ∷ []) (byte_form 1) (byte_form 2))
opening_due (Large number) fits = last_due F.Byte 2 (2 ∷ number ∷ []) (two_fill F.Byte (2 ∷ []) (number ∷ []) (byte_form 2) (byte_form number))
opening_due (EntryCount k) fits = absurd fits
opening_due (Entries n r k) fits = absurd fits
opening_due (DropCount r k) fits = absurd fits
opening_due (Drops n k) fits = absurd fits
opening_due DerivationCount fits = absurd fits
opening_due (Derivations n) fits = absurd fits
opening_due Over fits = absurd fits

sender_due : (ticket : ℕ) (kinds : List ℕ) → IsSender ticket kinds → AreDue (dues_at Head) (sender_bytes ticket kinds)
sender_due ticket kinds (is_ticket, are_kinds, rise) =
    let all = list_bytes u8_bytes kinds in
    then_due F.Ticket 1 (u64_bytes ticket) all _ (one_fills F.Ticket (u64_bytes ticket) (ticket_form ticket)) (last_due F.Kinds 1 all (one_fills F.Kinds all (kinds_form kinds are_kinds)))

same_bytes : (dues : List Due) (a b : List ℕ) → a ≡ b → AreDue dues b → AreDue dues a
same_bytes dues a b is all = subst (λ l. AreDue dues l) (sym is) all

count_due : (n : ℕ) → AreDue (due F.Word 1 ∷ []) (u32_bytes n)
count_due n = last_due F.Word 1 (u32_bytes n) (one_fills F.Word (u32_bytes n) (word_form n))

nothing_due : AreDue [] []
nothing_due rest = stands

pub comes_due : (p q : Place) (x : Option Part) (bytes : List ℕ) → Comes p x q bytes → AreDue (dues_at p) bytes
comes_due _ _ _ bytes (opening q _ fits is) = same_bytes _ bytes (opening_bytes q) is (opening_due q fits)
comes_due _ _ _ bytes (head ticket kinds _ fits is) = same_bytes _ bytes (sender_bytes ticket kinds) is (sender_due ticket kinds fits)
comes_due _ _ _ bytes (listed_head terms ticket kinds _ are fits is) =
    let spelled = list_bytes polynomial_bytes terms in
    same_bytes _ bytes (spelled ++ sender_bytes ticket kinds) is
    (then_due F.Polynomials 1 spelled (sender_bytes ticket kinds) _ (one_fills F.Polynomials spelled (polynomials_form terms are.0)) (sender_due ticket kinds fits))
comes_due _ _ _ bytes (too_large number ticket _ fits is) = same_bytes _ bytes (u64_bytes ticket) is (last_due F.Ticket 1 (u64_bytes ticket) (one_fills F.Ticket (u64_bytes ticket) (ticket_form ticket)))
comes_due _ _ _ bytes (entry_count n r k _ fits few rows is) = same_bytes _ bytes (u32_bytes n) is (count_due n)
comes_due _ _ _ bytes (entry n r k after e _ fits within order on is) = same_bytes _ bytes _ is (entry_is_due k e fits)
comes_due _ _ _ bytes (all_entries r k _ is) = same_bytes _ bytes [] is nothing_due
comes_due _ _ _ bytes (drop_count n r k _ fits few is) = same_bytes _ bytes (u32_bytes n) is (count_due n)
comes_due _ _ _ bytes (a_drop n k after g _ fits within order on is) = same_bytes _ bytes _ is (drop_is_due k g fits)
comes_due _ _ _ bytes (all_drops k _ all is) = same_bytes _ bytes [] is nothing_due
comes_due _ _ _ bytes (derivation_count n _ fits is) = same_bytes _ bytes (u32_bytes n) is (count_due n)
comes_due _ _ _ bytes (derivation n d _ fits is) = same_bytes _ bytes _ is (derivation_due d fits)
comes_due _ _ _ bytes (all_derivations _ is) = same_bytes _ bytes [] is nothing_due

-- where something is due still, nothing comes
pub short_stuck : (p : Place) (bytes rest : List ℕ) (dues : List Due) → Passes (dues_at p) bytes dues rest → next dues rest ≡ None → dues ≢ [] → IsStuck p bytes
short_stuck p bytes rest dues passes last some x q after (front, comes, is) =
    let all : Passes (dues_at p) bytes [] after = subst (λ l. Passes (dues_at p) l [] after) (sym is) (comes_due p q x front comes after) in
    some (one_end (dues_at p) dues bytes after rest all passes last).0

cancelled : (a b c d e : List ℕ) → a ++ b ≡ c ++ d → d ≡ e ++ b → a ≡ c ++ e
cancelled a b c d e same is = append_cancel_right a (c ++ e) b (same ∙ ap (λ l. c ++ l) is ∙ sym (append_assoc c e b))

-- where nothing is due any more, and nothing comes, nothing will
pub ended_stuck : (p : Place) (bytes more : List ℕ) → IsEnded p bytes → IsStuck p bytes → IsStuck p (bytes ++ more)
ended_stuck p bytes more (rest, passes) stuck x q after (front, comes, is) =
    let first : Passes (dues_at p) (bytes ++ more) [] after = subst (λ l. Passes (dues_at p) l [] after) (sym is) (comes_due p q x front comes after) in
    let second : Passes (dues_at p) (bytes ++ more) [] (rest ++ more) = passes_more (dues_at p) [] bytes rest more passes in
    let same : after ≡ rest ++ more = (one_end (dues_at p) [] (bytes ++ more) after (rest ++ more) first second refl).1 in
    stuck x q rest (front, comes, cancelled bytes more front after rest is same)

-- ---- what is known in the code

pub skim_more : (p : Place) (bytes more : List ℕ) (s : Skim) → IsSkim p bytes s → IsSkim p (bytes ++ more) s
skim_more p bytes more s skim begun =
    let h = skim begun in (
      omega (arith, h.0, length-append bytes more),
      subst (λ l. Passes (dues_at p) (bytes ++ more) s.dues.items l) (sym (drop-append-le s.passed bytes more h.0)) (passes_more (dues_at p) s.dues.items bytes (drop s.passed bytes) more h.1),
    )

pub skim_on : (p : Place) (bytes rest : List ℕ) (s : Skim) (dues : List Due) → s.begun ≡ true → IsSkim p bytes s → Passes s.dues.items (drop s.passed bytes) dues rest →
    (length bytes - length rest ≤ length bytes) × Passes (dues_at p) bytes dues (drop (length bytes - length rest) bytes)
skim_on p bytes rest s dues begun skim passes =
    let all : Passes (dues_at p) bytes dues rest = passes_then (dues_at p) s.dues.items dues bytes (drop s.passed bytes) rest (skim begun).1 passes in
    (omega arith, subst (λ l. Passes (dues_at p) bytes dues l) (is_rest (dues_at p) dues bytes rest all).1 all)

pub skim_short : (p : Place) (bytes rest : List ℕ) (s : Skim) (dues : List Due) → s.begun ≡ true → IsSkim p bytes s → Passes s.dues.items (drop s.passed bytes) dues rest →
    next dues rest ≡ None → dues ≢ [] → IsStuck p bytes
skim_short p bytes rest s dues begun skim passes last some =
    short_stuck p bytes rest dues (passes_then (dues_at p) s.dues.items dues bytes (drop s.passed bytes) rest (skim begun).1 passes) last some

pub skim_whole : (p : Place) (bytes rest : List ℕ) (s : Skim) (dues : List Due) → s.begun ≡ true → IsSkim p bytes s → Passes s.dues.items (drop s.passed bytes) dues rest →
    dues ≡ [] → IsEnded p bytes
skim_whole p bytes rest s dues begun skim passes none =
    let all : Passes (dues_at p) bytes dues rest = passes_then (dues_at p) s.dues.items dues bytes (drop s.passed bytes) rest (skim begun).1 passes in
    (rest, subst (λ l. Passes (dues_at p) bytes l rest) none all)

pub skim_begins : (p : Place) (bytes : List ℕ) (s : Skim) → s.passed ≡ 0 → s.dues.items ≡ dues_at p → IsSkim p bytes s
skim_begins p bytes s none all begun =
    (omega (arith, none), subst (λ n. Passes (dues_at p) bytes s.dues.items (drop n bytes)) (sym none) (subst (λ l. Passes (dues_at p) bytes l bytes) (sym all) stands))

pub skim_not_begun : (p : Place) (bytes : List ℕ) (s : Skim) → s.begun ≡ false → IsSkim p bytes s
skim_not_begun p bytes s isnt begun = absurd (true_false (sym isnt ∙ begun)) where
  true_false : false ≡ true → ⊥
  true_false clash = absurd cc

-- a slice to the end
pub of_slice : (a c : List Due) (n : ℕ) (bytes rest : List ℕ) → Passes a (take (length bytes - n) (drop n bytes)) c rest → Passes a (drop n bytes) c rest
of_slice a c n bytes rest passes = subst (λ l. Passes a l c rest) (take_all (length bytes - n) (drop n bytes) (omega (arith, length-drop n bytes))) passes
