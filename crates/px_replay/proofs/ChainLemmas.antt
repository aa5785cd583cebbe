-- The replay of a chain, link by link, is that of the tree that the chain stands for.
use Rattle.std.proofs.Common.{◌≡◌, ◌∙◌, refl, sym, ap, subst, ℕ, ◌+◌, ◌<◌, ◌≤◌, pos, Bool, true, false, cond, List, [], ◌∷◌, map, drop, length, get_or, Result, Ok, Err}
use Rattle.std.proofs.lemmas.List.{at_drop_more, drop_all}
use Rattle.px_meaning.specs.Values.{BlockType, Value, Word}
use Rattle.px_meaning.specs.Execution.{Locals}
use Rattle.px_syntax.specs.declared.typed_expression.CellLink.{CellLink}
use Rattle.px_syntax.specs.TypedTree.{Expression, Condition, arithmetic, truth, compare, cell, both, either}
use Rattle.px_syntax.specs.TypedViews.{ArithmeticLinkTree, RelationLinkTree, calculated, compared, cells, all_of, any_of}
use Rattle.px_replay.specs.declared.stop.Stop.{Stop}
use Rattle.px_replay.specs.Script.{PlainScript, Act, answers, goes_on, and_then, either_act}
use Rattle.px_replay.specs.TreeReplay.{CallReplays, Replays, Checks, compares}
use Rattle.px_replay.specs.ChainReplay.{chained, loads_link, calculates_link, compares_link, and_link, or_link}

-- an answer at once is that of what was done before
answered : {A : Type 0} (act : Act A) (x r : Result A Stop) (s s1 s' : PlainScript) → act s x s1 → (r ≡ x) × (s' ≡ s1) → act s r s'
answered act x r s s1 s' h k = subst (λ u. act s u s') (sym k.0) (subst (λ u. act s x u) (sym k.1) h)

-- ---- loops over the links

pub rest_is : {A : Type 0} (xs : List A) (i : ℕ) (x d : A) → i < length xs → x ≡ get_or xs i d → drop i xs ≡ x ∷ drop (i + 1) xs
rest_is xs i x d lt is = at_drop_more (λ z. z) xs i d lt ∙ ap (λ z. z ∷ drop (i + 1) xs) (sym is)

module _ {A L X : Type 0} (step : L → X → Act X) (view : A → L) (links : List A) (i : ℕ) where
  -- a link has its value, and the rest goes on
  pub chain_more : (l d : A) → i < length links → l ≡ get_or links i d → (x y : X) (s s1 : PlainScript) (r : Result X Stop) (s' : PlainScript) →
      step (view l) x s (Ok y) s1 → chained step (map view (drop (i + 1) links)) y s1 r s' → chained step (map view (drop i links)) x s r s'
  chain_more l d lt is x y s s1 r s' h k =
      subst (λ ls. chained step (map view ls) x s r s') (sym (rest_is links i l d lt is)) (Ok y, s1, h, k)

  -- a link ends all
  pub chain_stops : (l a : A) → i < length links → l ≡ get_or links i a → (x : X) (d : Stop) (s s' : PlainScript) →
      step (view l) x s (Err d) s' → chained step (map view (drop i links)) x s (Err d) s'
  chain_stops l a lt is x d s s' h =
      subst (λ ls. chained step (map view ls) x s (Err d) s') (sym (rest_is links i l a lt is)) (Err d, s', h, (refl, refl))

  -- no link is left
  pub chain_ends : length links ≤ i → (x : X) (s : PlainScript) → chained step (map view (drop i links)) x s (Ok x) s
  chain_ends past x s = subst (λ ls. chained step (map view ls) x s (Ok x) s) (sym (drop_all i links past)) (refl, refl)

-- ---- chains as trees

module _ {E L X : Type 0} (meaning : E → Act X) (step : L → X → Act X) (grow : L → E → E)
    (grows : (l : L) (e : E) (s : PlainScript) (r : Result X Stop) (s' : PlainScript) → and_then (meaning e) (step l) s r s' → meaning (grow l e) s r s') where
  grown : E → List L → E
  grown e [] = e
  grown e (l ∷ links) = grown (grow l e) links

  grown_stops : (links : List L) (e : E) (d : Stop) (s s' : PlainScript) → meaning e s (Err d) s' → meaning (grown e links) s (Err d) s'
  unfolding grown
  grown_stops [] e d s s' h = h
  grown_stops (l ∷ links) e d s s' h = grown_stops links (grow l e) d s s' (grows l e s (Err d) s' (Err d, s', h, (refl, refl)))

  -- by the value of the first link; `on` is the induction
  grown_by : (l : L) (links : List L) (e : E) (x : X) (s s1 : PlainScript) (r : Result X Stop) (s' : PlainScript) → meaning e s (Ok x) s1 →
      ((e : E) (x : X) (s s1 : PlainScript) → meaning e s (Ok x) s1 → chained step links x s1 r s' → meaning (grown e links) s r s') →
      (r1 : Result X Stop) (s2 : PlainScript) → step l x s1 r1 s2 → goes_on (chained step links) r1 s2 r s' → meaning (grown e (l ∷ links)) s r s'
  unfolding grown
  grown_by l links e x s s1 r s' h on (Ok y) s2 h1 k = on (grow l e) y s s2 (grows l e s (Ok y) s2 (Ok x, s1, h, h1)) k
  grown_by l links e x s s1 r s' h on (Err d) s2 h1 k =
      answered (meaning (grown e (l ∷ links))) (Err d) r s s2 s' (grown_stops links (grow l e) d s s2 (grows l e s (Err d) s2 (Ok x, s1, h, h1))) k

  grown_goes : (links : List L) (e : E) (x : X) (s s1 : PlainScript) (r : Result X Stop) (s' : PlainScript) →
      meaning e s (Ok x) s1 → chained step links x s1 r s' → meaning (grown e links) s r s'
  unfolding grown
  grown_goes [] e x s s1 r s' h k = answered (meaning e) (Ok x) r s s1 s' h k
  grown_goes (l ∷ links) e x s s1 r s' h k =
      grown_by l links e x s s1 r s' h (λ e x s s1 h k. grown_goes links e x s s1 r s' h k) k.0 k.1 k.2 k.3

module _ (types : List BlockType) (calls : CallReplays) (locals : Locals) where
  abbrev replays : Expression → Act Value
  replays e = Replays types calls e locals

  abbrev checks : Condition → Act Bool
  checks c = Checks types calls c locals

  -- ---- arithmetic

  abbrev grow_arithmetic : ArithmeticLinkTree → Expression → Expression
  grow_arithmetic l e = arithmetic l.operator e l.operand

  calculated_is : (links : List ArithmeticLinkTree) (e : Expression) → grown replays (calculates_link types calls locals) grow_arithmetic (λ l e s r s' h. h) e links ≡ calculated e links
  unfolding grown
  calculated_is [] e = refl
  calculated_is (l ∷ links) e = calculated_is links (grow_arithmetic l e)

  pub calculated_goes : (links : List ArithmeticLinkTree) (e : Expression) (x : Value) (s s1 : PlainScript) (r : Result Value Stop) (s' : PlainScript) →
      Replays types calls e locals s (Ok x) s1 → chained (calculates_link types calls locals) links x s1 r s' → Replays types calls (calculated e links) locals s r s'
  calculated_goes links e x s s1 r s' h k =
      subst (λ e. Replays types calls e locals s r s') (calculated_is links e) (grown_goes replays (calculates_link types calls locals) grow_arithmetic (λ l e s r s' h. h) links e x s s1 r s' h k)

  pub calculated_stops : (links : List ArithmeticLinkTree) (e : Expression) (d : Stop) (s s' : PlainScript) → Replays types calls e locals s (Err d) s' → Replays types calls (calculated e links) locals s (Err d) s'
  calculated_stops links e d s s' h =
      subst (λ e. Replays types calls e locals s (Err d) s') (calculated_is links e) (grown_stops replays (calculates_link types calls locals) grow_arithmetic (λ l e s r s' h. h) links e d s s' h)

  -- ---- cells

  abbrev grow_cell : CellLink → Expression → Expression
  grow_cell l e = cell e l.field l.block l.site

  cells_is : (links : List CellLink) (e : Expression) → grown replays loads_link grow_cell (λ l e s r s' h. h) e links ≡ cells e links
  unfolding grown
  cells_is [] e = refl
  cells_is (l ∷ links) e = cells_is links (grow_cell l e)

  pub cells_goes : (links : List CellLink) (e : Expression) (x : Value) (s s1 : PlainScript) (r : Result Value Stop) (s' : PlainScript) →
      Replays types calls e locals s (Ok x) s1 → chained loads_link links x s1 r s' → Replays types calls (cells e links) locals s r s'
  cells_goes links e x s s1 r s' h k =
      subst (λ e. Replays types calls e locals s r s') (cells_is links e) (grown_goes replays loads_link grow_cell (λ l e s r s' h. h) links e x s s1 r s' h k)

  pub cells_stops : (links : List CellLink) (e : Expression) (d : Stop) (s s' : PlainScript) → Replays types calls e locals s (Err d) s' → Replays types calls (cells e links) locals s (Err d) s'
  cells_stops links e d s s' h =
      subst (λ e. Replays types calls e locals s (Err d) s') (cells_is links e) (grown_stops replays loads_link grow_cell (λ l e s r s' h. h) links e d s s' h)

  -- ---- `&&` and `||`

  abbrev grow_both : Condition → Condition → Condition
  grow_both d c = both c d

  all_is : (links : List Condition) (c : Condition) → grown checks (and_link types calls locals) grow_both (λ l e s r s' h. h) c links ≡ all_of c links
  unfolding grown
  all_is [] c = refl
  all_is (d ∷ links) c = all_is links (both c d)

  pub all_goes : (links : List Condition) (c : Condition) (x : Bool) (s s1 : PlainScript) (r : Result Bool Stop) (s' : PlainScript) →
      Checks types calls c locals s (Ok x) s1 → chained (and_link types calls locals) links x s1 r s' → Checks types calls (all_of c links) locals s r s'
  all_goes links c x s s1 r s' h k =
      subst (λ c. Checks types calls c locals s r s') (all_is links c) (grown_goes checks (and_link types calls locals) grow_both (λ l e s r s' h. h) links c x s s1 r s' h k)

  pub all_stops : (links : List Condition) (c : Condition) (d : Stop) (s s' : PlainScript) → Checks types calls c locals s (Err d) s' → Checks types calls (all_of c links) locals s (Err d) s'
  all_stops links c d s s' h =
      subst (λ c. Checks types calls c locals s (Err d) s') (all_is links c) (grown_stops checks (and_link types calls locals) grow_both (λ l e s r s' h. h) links c d s s' h)

  -- after a condition that is false, all are skipped
  pub all_false : (links : List Condition) (s : PlainScript) → chained (and_link types calls locals) links false s (Ok false) s
  all_false [] s = (refl, refl)
  all_false (d ∷ links) s = (Ok false, s, (refl, refl), all_false links s)

  abbrev grow_either : Condition → Condition → Condition
  grow_either d c = either c d

  any_is : (links : List Condition) (c : Condition) → grown checks (or_link types calls locals) grow_either (λ l e s r s' h. h) c links ≡ any_of c links
  unfolding grown
  any_is [] c = refl
  any_is (d ∷ links) c = any_is links (either c d)

  pub any_goes : (links : List Condition) (c : Condition) (x : Bool) (s s1 : PlainScript) (r : Result Bool Stop) (s' : PlainScript) →
      Checks types calls c locals s (Ok x) s1 → chained (or_link types calls locals) links x s1 r s' → Checks types calls (any_of c links) locals s r s'
  any_goes links c x s s1 r s' h k =
      subst (λ c. Checks types calls c locals s r s') (any_is links c) (grown_goes checks (or_link types calls locals) grow_either (λ l e s r s' h. h) links c x s s1 r s' h k)

  pub any_stops : (links : List Condition) (c : Condition) (d : Stop) (s s' : PlainScript) → Checks types calls c locals s (Err d) s' → Checks types calls (any_of c links) locals s (Err d) s'
  any_stops links c d s s' h =
      subst (λ c. Checks types calls c locals s (Err d) s') (any_is links c) (grown_stops checks (or_link types calls locals) grow_either (λ l e s r s' h. h) links c d s s' h)

  pub any_true : (links : List Condition) (s : PlainScript) → chained (or_link types calls locals) links true s (Ok true) s
  any_true [] s = (refl, refl)
  any_true (d ∷ links) s = (Ok true, s, (refl, refl), any_true links s)

  -- ---- comparisons: the outcome is compared as a value

  abbrev grow_compare : RelationLinkTree → Expression → Expression
  grow_compare l e = truth (compare l.relation e l.operand l.site)

  outcome_valued : (l : RelationLinkTree) (e : Expression) (x y : Value) (s sa sb : PlainScript) (r : Result Value Stop) (s' : PlainScript) →
      Replays types calls e locals s (Ok x) sa → Replays types calls l.operand locals sa (Ok y) sb → (rc : Result Bool Stop) (sc : PlainScript) → compares l.relation x y l.site sb rc sc →
      goes_on (λ holds. answers (Ok (Word (cond holds (pos 1) (pos 0))))) rc sc r s' → Replays types calls (grow_compare l e) locals s r s'
  outcome_valued l e x y s sa sb r s' ha hb (Ok true) sc hc k = (Ok true, sc, (Ok x, sa, ha, (Ok y, sb, hb, hc)), k)
  outcome_valued l e x y s sa sb r s' ha hb (Ok false) sc hc k = (Ok false, sc, (Ok x, sa, ha, (Ok y, sb, hb, hc)), k)
  outcome_valued l e x y s sa sb r s' ha hb (Err d) sc hc k = (Err d, sc, (Ok x, sa, ha, (Ok y, sb, hb, hc)), k)

  operand_valued : (l : RelationLinkTree) (e : Expression) (x : Value) (s sa : PlainScript) (r : Result Value Stop) (s' : PlainScript) →
      Replays types calls e locals s (Ok x) sa → (rb : Result Value Stop) (sb : PlainScript) → Replays types calls l.operand locals sa rb sb →
      goes_on (λ y. and_then (compares l.relation x y l.site) (λ holds. answers (Ok (Word (cond holds (pos 1) (pos 0)))))) rb sb r s' → Replays types calls (grow_compare l e) locals s r s'
  operand_valued l e x s sa r s' ha (Ok y) sb hb k = outcome_valued l e x y s sa sb r s' ha hb k.0 k.1 k.2 k.3
  operand_valued l e x s sa r s' ha (Err d) sb hb k = (Err d, sb, (Ok x, sa, ha, (Err d, sb, hb, (refl, refl))), k)

  first_valued : (l : RelationLinkTree) (e : Expression) (s : PlainScript) (r : Result Value Stop) (s' : PlainScript) →
      (ra : Result Value Stop) (sa : PlainScript) → Replays types calls e locals s ra sa → goes_on (compares_link types calls locals l) ra sa r s' → Replays types calls (grow_compare l e) locals s r s'
  first_valued l e s r s' (Ok x) sa ha k = operand_valued l e x s sa r s' ha k.0 k.1 k.2 k.3
  first_valued l e s r s' (Err d) sa ha k = (Err d, sa, (Err d, sa, ha, (refl, refl)), k)

  valued : (l : RelationLinkTree) (e : Expression) (s : PlainScript) (r : Result Value Stop) (s' : PlainScript) → and_then (replays e) (compares_link types calls locals l) s r s' → replays (grow_compare l e) s r s'
  valued l e s r s' h = first_valued l e s r s' h.0 h.1 h.2 h.3

  compared_is : (links : List RelationLinkTree) (e : Expression) → grown replays (compares_link types calls locals) grow_compare valued e links ≡ compared e links
  unfolding grown
  compared_is [] e = refl
  compared_is (l ∷ links) e = compared_is links (grow_compare l e)

  pub compared_goes : (links : List RelationLinkTree) (e : Expression) (x : Value) (s s1 : PlainScript) (r : Result Value Stop) (s' : PlainScript) →
      Replays types calls e locals s (Ok x) s1 → chained (compares_link types calls locals) links x s1 r s' → Replays types calls (compared e links) locals s r s'
  compared_goes links e x s s1 r s' h k =
      subst (λ e. Replays types calls e locals s r s') (compared_is links e) (grown_goes replays (compares_link types calls locals) grow_compare valued links e x s s1 r s' h k)

  pub compared_stops : (links : List RelationLinkTree) (e : Expression) (d : Stop) (s s' : PlainScript) → Replays types calls e locals s (Err d) s' → Replays types calls (compared e links) locals s (Err d) s'
  compared_stops links e d s s' h =
      subst (λ e. Replays types calls e locals s (Err d) s') (compared_is links e) (grown_stops replays (compares_link types calls locals) grow_compare valued links e d s s' h)

pub cells_same : (links : List CellLink) → map (λ k. k) links ≡ links
cells_same [] = refl
cells_same (l ∷ links) = ap (λ ls. l ∷ ls) (cells_same links)

-- ---- the choice of a link

pub chosen : {A : Type 0} (holds : Bool) (first second : Act A) (s : PlainScript) (r : Result A Stop) (s' : PlainScript) → holds ≡ true → first s r s' → either_act holds first second s r s'
chosen true first second s r s' e h = h
chosen false first second s r s' e h = absurd cc

pub passed : {A : Type 0} (holds : Bool) (first second : Act A) (s : PlainScript) (r : Result A Stop) (s' : PlainScript) → holds ≡ false → second s r s' → either_act holds first second s r s'
passed true first second s r s' e h = absurd cc
passed false first second s r s' e h = h
