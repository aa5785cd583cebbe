-- What stays ready, where one procedure stands somewhere else.
use Rattle.std.proofs.Common.{◌≡◌, ◌≢◌, ◌⊎◌, inl, inr, ℕ, zero, suc, ◌+◌, ◌<◌, ◌≤◌, ◌&&◌, List, [], ◌∷◌, length, get_or, set, map, Bool, true, false, true≢false, nat_eq, Option, Some, None, refl, sym, ap, ap₂, subst, ◌∙◌, arith, get_or-set_other, get_or-set_same, length-set}
use Rattle.std.specs.Prelude.{Contains}
use Rattle.std.proofs.lemmas.Bool.{cases_eq, cases_lt}
use Rattle.std.proofs.lemmas.List.Elements.{Contains-get_or}
use Rattle.px_base.specs.declared.trace.ProcId.{ProcId}
use Rattle.px_core.specs.BodyTree.{BodyTree}
use Rattle.px_components.specs.Graphs.{IsEdge}
use Rattle.px_callgraph.specs.CallGraphs.{IsGraphOf}
use Rattle.px_callgraph.specs.Working.{numbers_of}
use Rattle.px_pieces.specs.declared.desk.Status.{Status}
use Rattle.px_book.specs.declared.ready.Ready.{Ready}
use Rattle.px_book.specs.Flags.{flag_at}
use Rattle.px_book.specs.Ready.{status_at, is_unsettled, Blocks, callees_in, NoneBlocks, IsPast, for_workers, for_parent, IsFlagged, IsSized, SameOf, IsReady}
use Rattle.px_book.specs.RollKeeping.{AreCallers}

pub number_at : (ps : List ProcId) (k : ℕ) (p : ProcId) → k < length ps → get_or (numbers_of ps) k 0 ≡ (get_or ps k p).0
number_at [] k p l = let z : ⊥ = omega arith in absurd z
number_at (x ∷ ps) zero p l = refl
number_at (x ∷ ps) (suc k) p l = number_at ps k p (let m : k < length ps = omega arith in m)

abbrev pub zero_proc : ProcId
zero_proc = record { 0 = 0 }

-- ---- one callee more

module _ (graph : List (List ℕ)) (statuses : List (Option Status)) (f : ℕ) (ps : List ProcId) (n : ℕ) (bodies : ℕ → Option BodyTree) (is : numbers_of ps ≡ callees_in graph f)
    (l : n < length ps) where
  number_is : get_or (callees_in graph f) n 0 ≡ (get_or ps n zero_proc).0
  number_is = sym (ap (λ z. get_or z n 0) is) ∙ number_at ps n zero_proc l

  pub stops_at : Blocks bodies statuses f (get_or ps n zero_proc).0 → NoneBlocks bodies statuses f (callees_in graph f) n → IsPast bodies statuses f (callees_in graph f) n
  stops_at b h = record { none = h; next = λ _. subst (Blocks bodies statuses f) (sym number_is) b }

  pub goes_on : ¬ Blocks bodies statuses f (get_or ps n zero_proc).0 → NoneBlocks bodies statuses f (callees_in graph f) n → NoneBlocks bodies statuses f (callees_in graph f) (n + 1)
  goes_on apart h k m b = elim (cases_eq k n) [
    | inl e ↦ apart (subst (Blocks bodies statuses f) (ap (λ z. get_or (callees_in graph f) z 0) e ∙ number_is) b)
    | inr d ↦ h k (omega arith) b
  ]

module _ (graph : List (List ℕ)) (statuses : List (Option Status)) (f : ℕ) (x : Option Status) (inside : f < length statuses) where
  abbrev new : List (Option Status)
  new = set statuses f x

  pub at_same : status_at new f ≡ x
  at_same = get_or-set_same statuses f x None inside

  pub at_other : (g : ℕ) → g ≢ f → status_at new g ≡ status_at statuses g
  at_other g d = get_or-set_other statuses f g x None d

  flag_other : (r s : Ready) (g : ℕ) → g ≢ f → SameOf g r s → IsFlagged graph statuses r g → IsFlagged graph new s g
  flag_other r s g d same h = record {
    workers = same.workers ∙ h.workers ∙ ap₂ (λ a b. for_workers a && nat_eq b (length (callees_in graph g))) (sym (at_other g d)) (sym same.passed);
    parent = same.parent ∙ h.parent ∙ ap₂ (λ a b. for_parent a && nat_eq b (length (callees_in graph g))) (sym (at_other g d)) (sym same.passed);
  }

  pub flags_other : (r s : Ready) → IsReady graph statuses r → IsFlagged graph new s f → ((g : ℕ) → g ≢ f → SameOf g r s) → (g : ℕ) → g < length graph → IsFlagged graph new s g
  flags_other r s h here others g l = elim (cases_eq g f) [
    | inl e ↦ subst (IsFlagged graph new s) (sym e) here
    | inr d ↦ flag_other r s g d (others g d) (h.flagged g l)
  ]

  pub inside_kept : (r s : Ready) → IsReady graph statuses r → s.passed.items ≡ r.passed.items → (g : ℕ) → g < length graph → get_or s.passed.items g 0 ≤ length (callees_in graph g)
  inside_kept r s h kept g l = subst (λ z. get_or z g 0 ≤ length (callees_in graph g)) (sym kept) (h.inside g l)

  -- ---- no more and no less settled

  module _ (same : is_unsettled x ≡ is_unsettled (status_at statuses f)) where
    unsettled_same : (g : ℕ) → is_unsettled (status_at new g) ≡ is_unsettled (status_at statuses g)
    unsettled_same g = elim (cases_eq g f) [
      | inl e ↦ ap (λ z. is_unsettled (status_at new z)) e ∙ ap is_unsettled at_same ∙ same ∙ ap (λ z. is_unsettled (status_at statuses z)) (sym e)
      | inr d ↦ ap is_unsettled (at_other g d)
    ]

    past_same : (bodies : ℕ → Option BodyTree) (c : ℕ) (callees : List ℕ) (n : ℕ) → IsPast bodies statuses c callees n → IsPast bodies new c callees n
    past_same bodies c callees n h = record {
      none = λ k l b. h.none k l (record { unsettled = sym (unsettled_same (get_or callees k 0)) ∙ b.unsettled; apart = b.apart });
      next = λ l. let b = h.next l in record { unsettled = unsettled_same (get_or callees n 0) ∙ b.unsettled; apart = b.apart };
    }

    pub moved : (r s : Ready) → IsReady graph statuses r → IsSized (length graph) s → IsFlagged graph new s f → s.passed.items ≡ r.passed.items →
        ((g : ℕ) → g ≢ f → SameOf g r s) → IsReady graph new s
    moved r s h sized here kept others = record {
      sized = sized;
      flagged = flags_other r s h here others;
      inside = inside_kept r s h kept;
      passed = λ bodies is g l. subst (λ z. IsPast bodies new g (callees_in graph g) (get_or z g 0)) (sym kept)
          (past_same bodies g (callees_in graph g) (get_or r.passed.items g 0) (h.passed bodies is g l));
    }

  -- ---- settled

  module _ (settled : is_unsettled x ≡ false) where
    fewer : (bodies : ℕ → Option BodyTree) (c g : ℕ) → Blocks bodies new c g → Blocks bodies statuses c g
    fewer bodies c g b = elim (cases_eq g f) [
      | inl e ↦ absurd (true≢false (sym b.unsettled ∙ ap (λ z. is_unsettled (status_at new z)) e ∙ ap is_unsettled at_same ∙ settled))
      | inr d ↦ record { unsettled = sym (ap is_unsettled (at_other g d)) ∙ b.unsettled; apart = b.apart }
    ]

    pub none_kept : (bodies : ℕ → Option BodyTree) (c : ℕ) (callees : List ℕ) (n : ℕ) → NoneBlocks bodies statuses c callees n → NoneBlocks bodies new c callees n
    none_kept bodies c callees n h k l b = h k l (fewer bodies c (get_or callees k 0) b)

    pub past_kept : (bodies : ℕ → Option BodyTree) (c : ℕ) (callees : List ℕ) (n : ℕ) → IsPast bodies statuses c callees n → (n < length callees → get_or callees n 0 ≢ f) → IsPast bodies new c callees n
    past_kept bodies c callees n h d = record {
      none = none_kept bodies c callees n h.none;
      next = λ l. let b = h.next l in record { unsettled = ap is_unsettled (at_other (get_or callees n 0) (d l)) ∙ b.unsettled; apart = b.apart };
    }
