-- Values of nodes that make plain conjuncts true: there are some exactly where the conjuncts aren't refuted.
use Rattle.std.proofs.Common.{◌≡◌, ℕ, zero, suc, ◌+◌, ◌-◌, ◌%◌, ◌^◌, ◌<◌, ◌≤◌, List, length, refl, sym, ap, subst, ◌∙◌, arith}
use Rattle.std.specs.Prelude.{Bool, true, false, Some, All, slice_get}
use Rattle.std.proofs.lemmas.List.{get_or_default}
use Rattle.std.proofs.lemmas.List.Elements.{All-weaker}
use Rattle.px_terms.specs.Conjuncts.{IsWellSorted}
use Rattle.px_terms.specs.Valuations.{Valuation, IsUnwritten, Fits}
use Rattle.px_terms.specs.declared.types.Value.{Value}
use Rattle.px_terms.specs.declared.types.Value.TheVariants as value
use Rattle.px_terms.specs.declared.variables.VarInfo.{VarInfo}
use Rattle.px_terms.specs.declared.variables.Sort.TheVariants.{Cell}
use Rattle.px_terms.specs.declared.conjuncts.Conj.{Conj}
use Rattle.px_plain.specs.declared.nodes.Difference.{Difference}
use Rattle.px_plain.specs.Forest.{IsAbove}
use Rattle.px_plain.specs.Differences.{IfEqual, IfUnequal, AllHold}
use Rattle.px_plain.specs.Models.{IsPlainlyRefuted, value_of}
use Rattle.px_plain.specs.NodeValues.{words_at, IsWrittenNode, IsTrueOfWords, IsTrueOfPlaces, Satisfies, AreSorted}
use Rattle.px_plain.specs.Places.{ArePlaceNumbers}
use Rattle.px_plain.specs.Readings.{word_difference, place_difference, unwritten_node, written_node, word_differences, place_differences, unwritten_nodes, written_nodes}
use Rattle.px_plain.specs.Stands.{EqualBy, UnequalBy, IsMarkedBy}
use Rattle.px_plain.proofs.Fitting.{fits, satisfies}
use Rattle.px_plain.proofs.Labelled.{labels, are_place_numbers, places_hold, words_hold}
use Rattle.px_plain.proofs.Lists.{satisfied, made_true, sorted_parts}
use Rattle.px_plain.proofs.Options.{all_given, given_all}
use Rattle.px_plain.proofs.Placing.{info_at, info_is}
use Rattle.px_plain.proofs.Refuting.{must_be_cell}

-- words, numbers of places and unwritten nodes under which all plain conjuncts hold
pub record Solution (vars : List VarInfo) (conjuncts : List Conj) : Type 0 where
  pub word : ℕ → ℕ
  pub number : ℕ → ℕ
  pub void : ℕ → Bool
  pub numbers : ArePlaceNumbers vars number
  pub cells : (x : ℕ) (i : VarInfo) → void (x + 1) ≡ true → slice_get vars x ≡ Some i → i.sort ≡ Cell
  pub equal_words : All (EqualBy word_difference word) conjuncts
  pub unequal_words : All (UnequalBy word_difference word) conjuncts
  pub equal_places : All (EqualBy place_difference number) conjuncts
  pub unequal_places : All (UnequalBy place_difference number) conjuncts
  pub marks : All (IsMarkedBy void) conjuncts

-- ---- all differences, of a list and of conjuncts

module _ (w : ℕ → ℕ) (ds : List Difference) where
  abbrev none : Difference
  none = record { from = 0; to = 0; plus = 0; equal = false }

  pub equal_all : AllHold w ds → All (IfEqual w) ds
  equal_all h i d l = subst (IfEqual w) (get_or_default ds i none d l) (h.equal i l)

  pub unequal_all : AllHold w ds → All (IfUnequal w) ds
  unequal_all h i d l = subst (IfUnequal w) (get_or_default ds i none d l) (h.unequal i l)

  pub all_hold : All (IfEqual w) ds → All (IfUnequal w) ds → AllHold w ds
  all_hold h k = record { equal = λ i l. h i none l; unequal = λ i l. k i none l }

-- ---- from a valuation

abbrev is_void : Value → Bool
is_void (value.Word z) = false
is_void value.Null = false
is_void (value.Block b) = false
is_void value.Unwritten = true

void_unwritten : (a : Value) → is_void a ≡ true → IsUnwritten a
void_unwritten (value.Word z) e = absurd (cc)
void_unwritten value.Null e = absurd (cc)
void_unwritten (value.Block b) e = absurd (cc)
void_unwritten value.Unwritten e = tt

unwritten_void : (a : Value) → IsUnwritten a → is_void a ≡ true
unwritten_void (value.Word z) h = absurd h
unwritten_void value.Null h = absurd h
unwritten_void (value.Block b) h = absurd h
unwritten_void value.Unwritten h = refl

written_void : (a : Value) → ¬ IsUnwritten a → is_void a ≡ false
written_void (value.Word z) n = refl
written_void value.Null n = refl
written_void (value.Block b) n = refl
written_void value.Unwritten n = absurd (n tt)

abbrev void_at : Valuation → ℕ → Bool
void_at v zero = false
void_at v (suc x) = is_void (v x)

void_after : (v : Valuation) (x : ℕ) → void_at v (x + 1) ≡ is_void (v x)
void_after v x = let e : x + 1 ≡ suc x = omega arith in ap (void_at v) e

node_written : (v : Valuation) (u : ℕ) → IsWrittenNode v u → void_at v u ≡ false
node_written v zero h = refl
node_written v (suc x) h = written_void (v x) (h x (omega arith))

module _ (vars : List VarInfo) (cs : List Conj) (sorted : All (IsWellSorted vars) cs) (few : length vars ≤ 65536) where
  srt : AreSorted vars (word_differences cs) (place_differences cs) (unwritten_nodes cs) (written_nodes cs)
  srt = sorted_parts vars cs sorted

  module _ (v : Valuation) (f : Fits vars v) (s : Satisfies v (word_differences cs) (place_differences cs) (unwritten_nodes cs) (written_nodes cs)) where
    abbrev Free : Difference → Type 0
    Free d = (void_at v d.from ≡ false) × (void_at v d.to ≡ false)

    words : AllHold (words_at v) (word_differences cs)
    words = words_hold v (word_differences cs) s.words_hold

    places : AllHold (labels vars few v f) (place_differences cs)
    places = places_hold vars few v f (place_differences cs) srt.place_from srt.place_to srt.bare s.places_hold

    free_words : All (λ c. (d : Difference) → word_difference c ≡ Some d → Free d) cs
    free_words = given_all Free word_difference cs (All-weaker (IsTrueOfWords v) Free (λ d t. (node_written v d.from t.from, node_written v d.to t.to)) (word_differences cs) s.words_hold)

    free_places : All (λ c. (d : Difference) → place_difference c ≡ Some d → Free d) cs
    free_places = given_all Free place_difference cs (All-weaker (IsTrueOfPlaces v) Free (λ d t. (node_written v d.from t.from, node_written v d.to t.to)) (place_differences cs) s.places_hold)

    free_written : All (λ c. (u : ℕ) → written_node c ≡ Some u → void_at v u ≡ false) cs
    free_written = given_all (λ u. void_at v u ≡ false) written_node cs (All-weaker (IsWrittenNode v) (λ u. void_at v u ≡ false) (node_written v) (written_nodes cs) s.are_written)

    all_void : All (λ u. void_at v u ≡ true) (unwritten_nodes cs)
    all_void i d l =
        let r = srt.are_variables i d l in
        let h = s.are_unwritten i d l r.0 r.1 in
        ap (void_at v) r.1 ∙ void_after v r.0 ∙ unwritten_void (v r.0) h

    free_unwritten : All (λ c. (u : ℕ) → unwritten_node c ≡ Some u → void_at v u ≡ true) cs
    free_unwritten = given_all (λ u. void_at v u ≡ true) unwritten_node cs all_void

    pub solution_of : Solution vars cs
    solution_of = record {
      word = words_at v;
      number = labels vars few v f;
      void = void_at v;
      numbers = are_place_numbers vars few v f;
      cells = λ x i e g. must_be_cell i.sort i.value (v x) (f.sorts x i g) (void_unwritten (v x) (sym (void_after v x) ∙ e));
      equal_words = given_all (IfEqual (words_at v)) word_difference cs (equal_all (words_at v) (word_differences cs) words);
      unequal_words = given_all (IfUnequal (words_at v)) word_difference cs (unequal_all (words_at v) (word_differences cs) words);
      equal_places = given_all (IfEqual (labels vars few v f)) place_difference cs (equal_all (labels vars few v f) (place_differences cs) places);
      unequal_places = given_all (IfUnequal (labels vars few v f)) place_difference cs (unequal_all (labels vars few v f) (place_differences cs) places);
      marks = λ k d l. record { word = free_words k d l; place = free_places k d l; unwritten = free_unwritten k d l; written = free_written k d l };
    }

  pub refuted_without : ¬ Solution vars cs → IsPlainlyRefuted vars cs
  refuted_without n v f h = n (solution_of v f (satisfied vars cs v f h))

  -- ---- to a valuation

  module _ (s : Solution vars cs) where
    abbrev normal : ℕ → ℕ
    normal u = (s.word u + (2 ^ 32 - s.word 0 % 2 ^ 32)) % 2 ^ 32

    normal_above : (a b c : ℕ) → IsAbove s.word a b c → IsAbove normal a b c
    normal_above a b c h = omega arith

    above_normal : (a b c : ℕ) → IsAbove normal a b c → IsAbove s.word a b c
    above_normal a b c h = omega arith

    hold_words : AllHold normal (word_differences cs)
    hold_words = all_hold normal (word_differences cs)
        (all_given (IfEqual normal) word_difference cs (λ k c l d e q. normal_above d.to d.from d.plus (s.equal_words k c l d e q)))
        (all_given (IfUnequal normal) word_difference cs (λ k c l d e q h. s.unequal_words k c l d e q (above_normal d.to d.from d.plus h)))

    hold_places : AllHold s.number (place_differences cs)
    hold_places = all_hold s.number (place_differences cs) (all_given (IfEqual s.number) place_difference cs s.equal_places) (all_given (IfUnequal s.number) place_difference cs s.unequal_places)

    abbrev Written : Difference → Type 0
    Written d = (s.void d.from ≡ false) × (s.void d.to ≡ false)

    word_ends : All Written (word_differences cs)
    word_ends = all_given Written word_difference cs (λ k c l. (s.marks k c l).word)

    place_ends : All Written (place_differences cs)
    place_ends = all_given Written place_difference cs (λ k c l. (s.marks k c l).place)

    are_void : All (λ u. s.void u ≡ true) (unwritten_nodes cs)
    are_void = all_given (λ u. s.void u ≡ true) unwritten_node cs (λ k c l. (s.marks k c l).unwritten)

    are_not : All (λ u. s.void u ≡ false) (written_nodes cs)
    are_not = all_given (λ u. s.void u ≡ false) written_node cs (λ k c l. (s.marks k c l).written)

    abbrev v : Valuation
    v x = value_of (s.void (x + 1)) (info_at vars x).value (normal (x + 1)) (s.number (x + 1))

    each : (x : ℕ) (i : VarInfo) → slice_get vars x ≡ Some i → v x ≡ value_of (s.void (x + 1)) i.value (normal (x + 1)) (s.number (x + 1))
    each x i g = ap (λ (k : VarInfo). value_of (s.void (x + 1)) k.value (normal (x + 1)) (s.number (x + 1))) (info_is vars x i g)

    null_word : normal 0 ≡ 0
    null_word = omega arith

    low : (k : ℕ) → normal k < 2 ^ 32
    low k = omega arith

    abbrev nowhere : Difference
    nowhere = record { from = 0; to = 0; plus = 0; equal = false }

    pub not_refuted_with : ¬ IsPlainlyRefuted vars cs
    not_refuted_with r =
        let ws = word_differences cs in
        let ps = place_differences cs in
        let us = unwritten_nodes cs in
        let rs = written_nodes cs in
        let cells : (x : ℕ) (i : VarInfo) → slice_get vars x ≡ Some i → s.void (x + 1) ≡ true → i.sort ≡ Cell = λ x i g e. s.cells x i e g in
        let fit = fits vars ws ps us rs s.void normal s.number v srt cells (λ k l. are_void k 0 l) (λ k l. word_ends k nowhere l) (λ k l. place_ends k nowhere l) (λ k l. are_not k 0 l)
        null_word low hold_words s.numbers hold_places each in
        r v fit (made_true vars cs sorted v fit
        (satisfies vars ws ps us rs s.void normal s.number v srt cells (λ k l. are_void k 0 l) (λ k l. word_ends k nowhere l) (λ k l. place_ends k nowhere l) (λ k l. are_not k 0 l)
        null_word low hold_words s.numbers hold_places each))
