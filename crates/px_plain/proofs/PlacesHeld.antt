-- Places after one step more.
use Rattle.std.proofs.Common.{◌≡◌, ◌≢◌, inl, inr, ℕ, zero, suc, ◌+◌, ◌-◌, ◌<◌, ◌≤◌, List, [], ◌∷◌, ◌++◌, length, length-append, get_or, sym, ap, ◌∙◌, arith, get_or-set_other, get_or-set_same}
use Rattle.std.specs.Prelude.{Bool, true, false, Some, slice_get}
use Rattle.std.proofs.Math.ListN.{set, get_or-append}
use Rattle.std.proofs.lemmas.Bool.{cases_eq, cases_lt}
use Rattle.std.proofs.lemmas.List.{length_push, get_or_push, get_or_past}
use Rattle.std.proofs.lemmas.Option.{slice_get_within, slice_get-get_or, get_or_from_slice_get}
use Rattle.px_terms.specs.declared.types.ValueType.TheVariants.{Int}
use Rattle.px_terms.specs.declared.variables.VarInfo.{VarInfo}
use Rattle.px_terms.specs.declared.variables.Sort.TheVariants.{Made, Given}
use Rattle.px_terms.proofs.Tests.{never_both}
use Rattle.px_plain.specs.declared.trees.Tree.{Tree}
use Rattle.px_plain.specs.declared.trees.Link.{Link}
use Rattle.px_plain.specs.Trees.{Flat, IsLink, IsRanked, linked}
use Rattle.px_plain.specs.Joins.{owner_at, IsMadeNode, MayCome}
use Rattle.px_plain.specs.Stacks.{IsMadeInt}
use Rattle.px_plain.specs.Stands.{ArePlaced}
use Rattle.px_plain.proofs.Placing.{info_at}
use Rattle.px_plain.proofs.TreeLinks.{linked_length, flat_linked, root_moved, root_kept, moved_above, kept_above}
use Rattle.px_plain.proofs.MoreNodes.{more, more_length, flat_more, more_root, more_new, more_above, more_level}

-- ---- a root below another

module _ (vars : List VarInfo) (owners : List Bool) (apart : List ℕ) (t : List Tree) (size : length t ≡ length vars + 1) (f : Flat t) (p : ArePlaced vars owners apart f)
    (l : Link) (k : IsLink t l) (level : l.offset ≡ 0) (may : MayCome vars owners l.root l.parent) where
  abbrev g : Flat (linked t l)
  g = flat_linked t l k f

  -- a place apart isn't below the root
  not_moved : (i : ℕ) → i < length apart → f.root (get_or apart i 0 + 1) ≢ l.root
  not_moved i b e = never_both (owner_at owners l.root) (ap (owner_at owners) (sym e) ∙ p.owned i b) may.free

  same_root : (i : ℕ) → i < length apart → g.root (get_or apart i 0 + 1) ≡ f.root (get_or apart i 0 + 1)
  same_root i b = root_kept t l k f (get_or apart i 0 + 1) (not_moved i b)

  same_type : (x y z : ℕ) (i j : VarInfo) → slice_get vars x ≡ Some i → slice_get vars y ≡ Some j → f.root (x + 1) ≡ z + 1 → l.root ≡ z + 1 → l.parent ≡ y + 1 → i.value ≡ j.value
  same_type x y z i j a b e q h =
      let n = k.root_inside in
      let c = slice_get-get_or vars z (record { sort = Given; value = Int }) (omega arith) in
      p.types x z i (info_at vars z) a c e ∙ elim (may.types) [
        | inl o ↦ absurd (omega arith)
        | inr o ↦ o z y (info_at vars z) j q h c b
      ]

  types : (x y : ℕ) (i j : VarInfo) → slice_get vars x ≡ Some i → slice_get vars y ≡ Some j → g.root (x + 1) ≡ y + 1 → i.value ≡ j.value
  types x y i j a b e = elim (cases_eq (f.root (x + 1)) l.root) [
    | inl q ↦
        let s = may.some in
        let z : l.root ≡ (l.root - 1) + 1 = omega arith in
        same_type x y (l.root - 1) i j a b (q ∙ z) z (sym (root_moved t l k f (x + 1) q) ∙ e)
    | inr n ↦ p.types x y i j a b (sym (root_kept t l k f (x + 1) n) ∙ e)
  ]

  made : (x : ℕ) (i : VarInfo) → slice_get vars x ≡ Some i → i.sort ≡ Made → (v : ℕ) → v < length (linked t l) → g.root v ≡ g.root (x + 1) → v ≡ x + 1
  made x i a m v b e =
      let s = linked_length t l k in
      let w = slice_get_within vars x i a in
      let inside : f.root (x + 1) < length t = f.inside (x + 1) (omega arith) in
      let twice : f.root (f.root (x + 1)) ≡ f.root (x + 1) = f.here (f.root (x + 1)) inside (f.is_root (x + 1) (omega arith)) in
      let alone : f.root (x + 1) ≡ x + 1 = p.made x i a m (f.root (x + 1)) inside twice in
      let node : (u : ℕ) → u ≡ x + 1 → IsMadeNode vars u = λ u q. record { variable = x; info = i; node = q; is = a; made = m } in
      let here : g.root (x + 1) ≡ x + 1 = root_kept t l k f (x + 1) (λ q. may.single (node l.root (sym q ∙ alone))) ∙ alone in
      elim (cases_eq (f.root v) l.root) [
        | inl q ↦ absurd (may.other (node l.parent (sym (root_moved t l k f v q) ∙ e ∙ here)))
        | inr n ↦ p.made x i a m v (omega arith) (sym (root_kept t l k f v n) ∙ e ∙ here ∙ sym alone)
      ]

  pub placed_linked : ArePlaced vars owners apart g
  placed_linked = record {
    null = let s = may.some in root_kept t l k f 0 (λ q. s (sym q ∙ p.null)) ∙ p.null;
    level = λ v b.
        let s = linked_length t l k in
        let z = p.level v (omega arith) in
        elim (cases_eq (f.root v) l.root) [
          | inl q ↦ let e = moved_above t l k f v q in omega arith
          | inr n ↦ let e = kept_above t l k f v n in omega arith
        ];
    types = types;
    pointers = p.pointers;
    made = made;
    owned = λ i b. ap (owner_at owners) (same_root i b) ∙ p.owned i b;
    owner = λ r e. let o = p.owner r e in record { at = o.at; inside = o.inside; root = same_root o.at o.inside ∙ o.root };
    some = λ i b e. p.some i b (sym (same_root i b) ∙ e);
    distinct = λ i j b c e. p.distinct i j b c (sym (same_root i (omega arith)) ∙ e ∙ same_root j c);
    inside = λ i b. let s = linked_length t l k in let q = p.inside i b in omega arith;
  }

-- ---- a place apart

module _ (vars : List VarInfo) (owners : List Bool) (apart : List ℕ) (t : List Tree) (size : length owners ≡ length t) (f : Flat t) (p : ArePlaced vars owners apart f)
    (x r : ℕ) (inside : x + 1 < length t) (e : r ≡ f.root (x + 1)) (some : r ≢ 0) (free : owner_at owners r ≡ false) where
  abbrev owned : List Bool
  owned = set owners r true

  here : owner_at owned r ≡ true
  here = let b = f.inside (x + 1) inside in get_or-set_same owners r true false (omega arith)

  there : (u : ℕ) → u ≢ r → owner_at owned u ≡ owner_at owners u
  there u n = get_or-set_other owners r u true false n

  still : (u : ℕ) → owner_at owners u ≡ true → owner_at owned u ≡ true
  still u q = elim (cases_eq u r) [ inl z ↦ ap (owner_at owned) z ∙ here | inr n ↦ there u n ∙ q ]

  -- no place that was apart has the root
  fresh : (i : ℕ) → i < length apart → f.root (get_or apart i 0 + 1) ≢ r
  fresh i b q = never_both (owner_at owners r) (ap (owner_at owners) (sym q) ∙ p.owned i b) free

  owned_now : (i : ℕ) → i < length (x ∷ apart) → owner_at owned (f.root (get_or (x ∷ apart) i 0 + 1)) ≡ true
  owned_now zero b = ap (owner_at owned) (sym e) ∙ here
  owned_now (suc i) b = still (f.root (get_or apart i 0 + 1)) (p.owned i (omega arith))

  some_now : (i : ℕ) → i < length (x ∷ apart) → f.root (get_or (x ∷ apart) i 0 + 1) ≢ 0
  some_now zero b q = some (e ∙ q)
  some_now (suc i) b q = p.some i (omega arith) q

  distinct_now : (i j : ℕ) → i < j → j < length (x ∷ apart) → f.root (get_or (x ∷ apart) i 0 + 1) ≢ f.root (get_or (x ∷ apart) j 0 + 1)
  distinct_now i zero b c q = absurd (omega arith)
  distinct_now zero (suc j) b c q = fresh j (omega arith) (sym q ∙ sym e)
  distinct_now (suc i) (suc j) b c q = p.distinct i j (omega arith) (omega arith) q

  inside_now : (i : ℕ) → i < length (x ∷ apart) → get_or (x ∷ apart) i 0 + 1 < length t
  inside_now zero b = inside
  inside_now (suc i) b = p.inside i (omega arith)

  pub placed_apart : ArePlaced vars owned (x ∷ apart) f
  placed_apart = record {
    null = p.null;
    level = p.level;
    types = p.types;
    pointers = p.pointers;
    made = p.made;
    owned = owned_now;
    owner = λ u q. elim (cases_eq u r) [
      | inl z ↦ record { at = 0; inside = omega arith; root = sym e ∙ sym z }
      | inr n ↦ let o = p.owner u (sym (there u n) ∙ q) in let b = o.inside in record { at = suc o.at; inside = omega arith; root = o.root }
    ];
    some = some_now;
    distinct = distinct_now;
    inside = inside_now;
  }

-- ---- a variable

module _ (vars : List VarInfo) (info : VarInfo) where
  pub old_var : (x : ℕ) (i : VarInfo) → x < length vars → slice_get (vars ++ info ∷ []) x ≡ Some i → slice_get vars x ≡ Some i
  old_var x i l e =
      let d : VarInfo = record { sort = Given; value = Int } in
      let a = get_or_from_slice_get (vars ++ info ∷ []) x i d e in
      let b = get_or-append vars (info ∷ []) d x l in
      slice_get-get_or vars x d l ∙ ap Some (sym b ∙ a)

  pub new_var : (x : ℕ) (i : VarInfo) → length vars ≤ x → slice_get (vars ++ info ∷ []) x ≡ Some i → (x ≡ length vars) × (info ≡ i)
  new_var x i l e =
      let d : VarInfo = record { sort = Given; value = Int } in
      let n = length_push vars info in
      let w = slice_get_within (vars ++ info ∷ []) x i e in
      let same : length vars ≡ x = omega arith in
      (sym same, sym (get_or_push vars info d x same) ∙ get_or_from_slice_get (vars ++ info ∷ []) x i d e)

  pub kept_var : (x : ℕ) (i : VarInfo) → slice_get vars x ≡ Some i → slice_get (vars ++ info ∷ []) x ≡ Some i
  kept_var x i e =
      let d : VarInfo = record { sort = Given; value = Int } in
      let l = slice_get_within vars x i e in
      let n = length_push vars info in
      slice_get-get_or (vars ++ info ∷ []) x d (omega arith) ∙ ap Some (get_or-append vars (info ∷ []) d x l ∙ get_or_from_slice_get vars x i d e)

module _ (vars : List VarInfo) (info : VarInfo) (owners : List Bool) (apart : List ℕ) (t : List Tree) (r : IsRanked t) (size : length t ≡ length vars + 1) (count : length owners ≡ length t)
    (f : Flat t) (p : ArePlaced vars owners apart f) (fits : ¬ IsMadeInt info) where
  abbrev m : Flat (more t r)
  m = flat_more t r f

  abbrev all : List VarInfo
  all = vars ++ info ∷ []

  owner_old : (u : ℕ) → u < length owners → owner_at (owners ++ false ∷ []) u ≡ owner_at owners u
  owner_old u l = get_or-append owners (false ∷ []) false u l

  owner_true : (u : ℕ) → owner_at (owners ++ false ∷ []) u ≡ true → owner_at owners u ≡ true
  owner_true u e = elim (cases_lt u (length owners)) [
    | inl l ↦ sym (owner_old u l) ∙ e
    | inr l ↦ elim (cases_eq u (length owners)) [
      | inl q ↦ absurd (never_both (owner_at (owners ++ false ∷ []) u) e (get_or_push owners false false u (sym q)))
      | inr n ↦
          let k = length-append owners (false ∷ []) in
          absurd (never_both (owner_at (owners ++ false ∷ []) u) e (get_or_past (owners ++ false ∷ []) u false (omega arith)))
    ]
  ]

  old_root : (v : ℕ) → v < length t → m.root v ≡ f.root v
  old_root v l = more_root t r f v l

  apart_root : (i : ℕ) → i < length apart → m.root (get_or apart i 0 + 1) ≡ f.root (get_or apart i 0 + 1)
  apart_root i b = old_root (get_or apart i 0 + 1) (p.inside i b)

  types_now : (x y : ℕ) (i j : VarInfo) → slice_get all x ≡ Some i → slice_get all y ≡ Some j → m.root (x + 1) ≡ y + 1 → i.value ≡ j.value
  types_now x y i j a b e = elim (cases_lt x (length vars)) [
    | inl l ↦
        let q = old_root (x + 1) (omega arith) in
        let h = f.inside (x + 1) (omega arith) in
        p.types x y i j (old_var vars info x i l a) (old_var vars info y j (omega arith) b) (sym q ∙ e)
    | inr l ↦
        let n = new_var vars info x i l a in
        let s : x + 1 ≡ length t = let z = n.0 in omega arith in
        let q : m.root (x + 1) ≡ length t = ap m.root s ∙ more_new t r f in
        let o = new_var vars info y j (omega arith) b in
        ap (λ (k : VarInfo). k.value) (sym n.1 ∙ o.1)
  ]

  made_now : (x : ℕ) (i : VarInfo) → slice_get all x ≡ Some i → i.sort ≡ Made → (v : ℕ) → v < length (more t r) → m.root v ≡ m.root (x + 1) → v ≡ x + 1
  made_now x i a s v b e =
      let n = more_length t r in
      elim (cases_lt x (length vars)) [
        | inl l ↦
            let q = old_root (x + 1) (omega arith) in
            let h = f.inside (x + 1) (omega arith) in
            elim (cases_lt v (length t)) [
              | inl c ↦ p.made x i (old_var vars info x i l a) s v c (sym (old_root v c) ∙ e ∙ q)
              | inr c ↦
                  let z : v ≡ length t = omega arith in
                  let y : m.root v ≡ length t = ap m.root z ∙ more_new t r f in
                  absurd (omega arith)
            ]
        | inr l ↦
            let o = new_var vars info x i l a in
            let z : x + 1 ≡ length t = let y = o.0 in omega arith in
            let q : m.root (x + 1) ≡ length t = ap m.root z ∙ more_new t r f in
            elim (cases_lt v (length t)) [
              | inl c ↦ let h = f.inside v c in let y = old_root v c in absurd (omega arith)
              | inr c ↦ omega arith
            ]
      ]

  pub placed_more : ArePlaced all (owners ++ false ∷ []) apart m
  placed_more = record {
    null = old_root 0 (omega arith) ∙ p.null;
    level = λ v b.
        let n = more_length t r in
        elim (cases_lt v (length t)) [
          | inl c ↦ more_above t r f v c ∙ p.level v c
          | inr c ↦ let z : v ≡ length t = omega arith in ap m.above z ∙ more_level t r f
        ];
    types = types_now;
    pointers = λ x i a s t. elim (cases_lt x (length vars)) [
      | inl l ↦ p.pointers x i (old_var vars info x i l a) s t
      | inr l ↦ let o = new_var vars info x i l a in fits (ap (λ (k : VarInfo). k.sort) o.1 ∙ s, ap (λ (k : VarInfo). k.value) o.1 ∙ t)
    ];
    made = made_now;
    owned = λ i b.
        let c = f.inside (get_or apart i 0 + 1) (p.inside i b) in
        ap (owner_at (owners ++ false ∷ [])) (apart_root i b) ∙ owner_old (f.root (get_or apart i 0 + 1)) (omega arith) ∙ p.owned i b;
    owner = λ u e. let o = p.owner u (owner_true u e) in record { at = o.at; inside = o.inside; root = apart_root o.at o.inside ∙ o.root };
    some = λ i b e. p.some i b (sym (apart_root i b) ∙ e);
    distinct = λ i j b c e. p.distinct i j b c (sym (apart_root i (omega arith)) ∙ e ∙ apart_root j c);
    inside = λ i b. let n = more_length t r in let q = p.inside i b in omega arith;
  }
