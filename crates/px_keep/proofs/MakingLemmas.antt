-- The parts that are made one after another with the help of kept items.
use Rattle.std.proofs.Common.{◌≡◌, ◌≢◌, ℕ, ◌+◌, ◌<◌, ◌≤◌, List, [], length, get_or, set, replicate, Bool, false, Option, Some, None, refl, sym, ap, ◌∙◌, subst, inl, inr, arith, length-set}
use Rattle.std.specs.Prelude.{slice_get, option_and_then}
use Rattle.std.proofs.lemmas.Bool.{cases_eq}
use Rattle.std.proofs.lemmas.List.{length-replicate, get_or_default}
use Rattle.std.proofs.lemmas.Option.{same_Some, slice_get_within, none-some}
use Rattle.px_entry.specs.declared.tables.Gap.{Gap}
use Rattle.px_entry.specs.declared.tables.Table.{Table}
use Rattle.px_callgraph.specs.JobTree.{JobTree}
use Rattle.px_check.specs.declared.checked.Checked.{Checked}
use Rattle.px_symexec.specs.One.{Work, IsTabled}
use Rattle.px_pieces.specs.declared.findings.Part.{Part}
use Rattle.px_pieces.specs.declared.findings.Part.TheVariants.{Tabled, LeftOut}
use Rattle.px_pieces.specs.Found.{Found, table_of}
use Rattle.px_jobs.specs.Plans.{tables_at}
use Rattle.px_jobs.proofs.Places.{set_same, set_other}
use Rattle.px_findings.specs.declared.order.Turn.{Turn}
use Rattle.px_findings.specs.Making.{HasTable}
use Rattle.px_findings.proofs.Making.{Grow, job_grows}
use Rattle.px_findings.proofs.FoundLemmas.{all_same, left_at}
use Rattle.px_findings.proofs.Places.{item_at}
use Rattle.px_keep.specs.Items.{KeptItem}
use Rattle.px_keep.specs.Reused.{IsAnswer, IsPartOf, IsReusedPart, trues, IsReused}
use Rattle.px_keep.specs.Making.{IsPartSoFar, AreMade, IsOrder}

-- a turn, where any serves
abbrev pub any_turn : Turn
any_turn = record { number = 0; rank = 0 }

module _ (Answers : JobTree → Bool → List Checked → List Gap → Type 0) (w : Work) where
  table_there : (tables : ℕ → Option Table) (n : ℕ) (b : Bool) (x : Part) → IsPartOf Answers w tables n b x → (t : Table) × (table_of x ≡ Some t)
  table_there tables n b (Tabled checked drops) h = (_, refl)
  table_there tables n b LeftOut h = absurd h

  as_so_far : (tables : ℕ → Option Table) (n : ℕ) (b : Bool) (x : Part) → IsTabled w n → IsPartOf Answers w tables n b x → IsPartSoFar Answers w tables n b x
  as_so_far tables n b (Tabled checked drops) t h = (t, h)
  as_so_far tables n b LeftOut t h = absurd h

  of_grows : (a c : ℕ → Option Table) (n : ℕ) (b : Bool) (x : Part) → Grow a c → IsPartOf Answers w a n b x → IsPartOf Answers w c n b x
  of_grows a c n b (Tabled checked drops) grow h = job_grows w a c n (λ j. Answers j b checked drops) grow h
  of_grows a c n b LeftOut grow h = h

  so_far_grows : (a c : ℕ → Option Table) (n : ℕ) (b : Bool) (x : Part) → Grow a c → IsPartSoFar Answers w a n b x → IsPartSoFar Answers w c n b x
  so_far_grows a c n b (Tabled checked drops) grow h = (h.0, of_grows a c n b (Tabled checked drops) grow h.1)
  so_far_grows a c n b LeftOut grow h = h

  -- before the first
  pub none_made : (order : List Turn) (parts : List Part) (uses : List Bool) → IsOrder w order → parts ≡ replicate w.kept LeftOut → uses ≡ replicate w.kept false → AreMade Answers w order parts uses 0
  none_made order parts uses ordered none unused = subst (λ z. AreMade Answers w order z uses 0) (sym none) (subst (λ z. AreMade Answers w order (replicate w.kept LeftOut) z 0) (sym unused) (record {
    size = length-replicate w.kept LeftOut;
    size_uses = length-replicate w.kept false;
    each = λ n x b e u. subst (IsPartSoFar Answers w (tables_at (replicate w.kept LeftOut)) n b) (sym (all_same w.kept n LeftOut x e)) (all_same w.kept n false b u);
    done = λ k d l m. let z : ⊥ = omega arith in absurd z;
    to_do = λ k d l m. left_at w.kept (get_or order k d).number (ordered.tabled k d m).0;
  }))

  -- one part more
  module _ (order : List Turn) (parts : List Part) (uses : List Bool) (i : ℕ) (d : Turn) (x : Part) (b : Bool) (ordered : IsOrder w order) (below : i < length order)
      (h : AreMade Answers w order parts uses i) (answered : IsPartOf Answers w (tables_at parts) (get_or order i d).number b x) where
    abbrev n : ℕ
    n = (get_or order i d).number

    abbrev pub more : List Part
    more = set parts n x

    free : slice_get parts n ≡ Some LeftOut
    free = h.to_do i d (omega arith) below

    inside : n < length parts
    inside = slice_get_within parts n LeftOut free

    inside_uses : n < length uses
    inside_uses = let a = h.size in let c = h.size_uses in let l = inside in omega arith

    pub there : slice_get more n ≡ Some x
    there = set_same parts n x inside

    pub grow : Grow (tables_at parts) (tables_at more)
    grow g t e = elim (cases_eq g n) [
      | inl s ↦ absurd (none-some t (sym (ap (option_and_then table_of) (ap (slice_get parts) s ∙ free)) ∙ e))
      | inr a ↦ ap (option_and_then table_of) (set_other parts n g x a) ∙ e
    ]

    its_table : HasTable more n
    its_table = let (table, e) = table_there (tables_at parts) n b x answered in (table, ap (option_and_then table_of) there ∙ e)

    has_more : (m : ℕ) → HasTable parts m → HasTable more m
    has_more m (t, e) = (t, grow m t e)

    here : (y : Part) (c : Bool) → slice_get more n ≡ Some y → slice_get (set uses n b) n ≡ Some c → IsPartSoFar Answers w (tables_at more) n c y
    here y c e u = subst (IsPartSoFar Answers w (tables_at more) n c) (same_Some x y (sym there ∙ e))
        (subst (λ z. IsPartSoFar Answers w (tables_at more) n z x) (same_Some b c (sym (set_same uses n b inside_uses) ∙ u))
        (as_so_far (tables_at more) n b x (ordered.tabled i d below) (of_grows (tables_at parts) (tables_at more) n b x grow answered)))

    same_at : (k : ℕ) (e : Turn) → k ≡ i → k < length order → n ≡ (get_or order k e).number
    same_at k e s m = ap (λ (t : Turn). t.number) (sym (get_or_default order k e d m ∙ ap (λ z. get_or order z d) s))

    apart : (k : ℕ) (e : Turn) → i < k → k < length order → (get_or order k e).number ≢ n
    apart k e l m = subst (λ (t : Turn). t.number ≢ n) (sym (get_or_default order k e d m)) (ordered.others i k d l m)

    pub made_more : AreMade Answers w order more (set uses n b) (i + 1)
    made_more = record {
      size = length-set parts n x ∙ h.size;
      size_uses = length-set uses n b ∙ h.size_uses;
      each = λ m y c e u. elim (cases_eq m n) [
        | inl s ↦ subst (λ z. IsPartSoFar Answers w (tables_at more) z c y) (sym s) (here y c (ap (slice_get more) (sym s) ∙ e) (ap (slice_get (set uses n b)) (sym s) ∙ u))
        | inr a ↦ so_far_grows (tables_at parts) (tables_at more) m c y grow (h.each m y c (sym (set_other parts n m x a) ∙ e) (sym (set_other uses n m b a) ∙ u))
      ];
      done = λ k e l m. elim (cases_eq k i) [
        | inl s ↦ subst (HasTable more) (same_at k e s m) its_table
        | inr a ↦ has_more (get_or order k e).number (h.done k e (omega arith) m)
      ];
      to_do = λ k e l m. set_other parts n (get_or order k e).number x (apart k e (omega arith) m) ∙ h.to_do k e (omega arith) m;
    }

  -- the same of a procedure whose turn it is
  pub made_at : (order : List Turn) (parts new_parts : List Part) (uses new_uses : List Bool) (i n : ℕ) (x : Part) (b : Bool) → IsOrder w order → i < length order → AreMade Answers w order parts uses i →
      ((d : Turn) → n ≡ (get_or order i d).number) → IsPartOf Answers w (tables_at parts) n b x → new_parts ≡ set parts n x → new_uses ≡ set uses n b → AreMade Answers w order new_parts new_uses (i + 1)
  made_at order parts new_parts uses new_uses i n x b ordered below h turn answered is is' =
      subst (λ z. AreMade Answers w order z new_uses (i + 1)) (sym (is ∙ ap (λ k. set parts k x) (turn any_turn)))
      (subst (λ z. AreMade Answers w order (set parts (get_or order i any_turn).number x) z (i + 1)) (sym (is' ∙ ap (λ k. set uses k b) (turn any_turn)))
      (made_more order parts uses i any_turn x b ordered below h (subst (λ k. IsPartOf Answers w (tables_at parts) k b x) (turn any_turn) answered)))

  -- after the last
  module _ (order : List Turn) (parts : List Part) (uses : List Bool) (i : ℕ) (ordered : IsOrder w order) (h : AreMade Answers w order parts uses i) (last : length order ≤ i) where
    pub untabled : (n : ℕ) → slice_get parts n ≡ Some LeftOut → ¬ IsTabled w n
    untabled n e t =
        let (k, d, m, same) = ordered.all n t in
        let (table, is) = subst (HasTable parts) same (h.done k d (omega arith) m) in
        none-some table (sym (ap (option_and_then table_of) e) ∙ is)

    pub past : (n : ℕ) → slice_get parts n ≡ None → ¬ IsTabled w n
    past n e t =
        let l = t.0 in
        let s = h.size in
        let (x, at, read) = item_at parts n (omega arith) in none-some x (sym e ∙ at)

    -- a procedure that has a table
    pub tabled : (n : ℕ) (checked : List Checked) (drops : List Gap) → slice_get parts n ≡ Some (Tabled checked drops) → (b : Bool) × IsTabled w n × IsPartOf Answers w (tables_at parts) n b (Tabled checked drops)
    tabled n checked drops e =
        let l = slice_get_within parts n (Tabled checked drops) e in
        let s = h.size in
        let c = h.size_uses in
        let (b, at, read) = item_at uses n (omega arith) in
        let p = h.each n (Tabled checked drops) b e at in (b, p.0, p.1)

-- with the help of items
module _ (xs : List KeptItem) (w : Work) (order : List Turn) (parts : List Part) (uses : List Bool) (i : ℕ) (ordered : IsOrder w order) (h : AreMade (IsAnswer xs) w order parts uses i) (last : length order ≤ i) where
  each : (n : ℕ) (x : Part) (b : Bool) → slice_get parts n ≡ Some x → slice_get uses n ≡ Some b → IsReusedPart xs w (tables_at parts) n b x
  each n (Tabled checked drops) b e u = h.each n (Tabled checked drops) b e u
  each n LeftOut b e u = (untabled (IsAnswer xs) w order parts uses i ordered h last n e, h.each n LeftOut b e u)

  pub all_made : (used : ℕ) → used ≡ trues uses → IsReused w xs (record { parts = parts; events = [] }) used
  all_made used are = record { all = h.size; uses = uses; all_uses = h.size_uses; each = each; used_are = are }

-- all that is found so
pub reused_all : (xs : List KeptItem) (w : Work) (order : List Turn) (parts : List Part) (uses : List Bool) (i used : ℕ) (f : Found) → IsOrder w order → AreMade (IsAnswer xs) w order parts uses i → length order ≤ i →
    used ≡ trues uses → f ≡ record { parts = parts; events = [] } → IsReused w xs f used
reused_all xs w order parts uses i used f ordered made last are is = subst (λ g. IsReused w xs g used) (sym is) (all_made xs w order parts uses i ordered made last used are)
