-- The tables of the gates: each says its output, and no other.
use Rattle.std.proofs.Common.{◌≡◌, ℕ, ◌<◌, List, [], ◌∷◌, map, refl, sym, ap, ap₂, subst, ◌∙◌}
use Rattle.std.specs.Prelude.{Bool, true, false, not, ◌&&◌, ◌||◌, cond, Result, Ok, Err, IfOk, OnOk}
use Rattle.px_terms.specs.declared.faults.NoMemory.{NoMemory}
use Rattle.std.specs.Bool.{beq}
use Rattle.std.specs.List.{list_any, list_all}
use Rattle.std.proofs.lemmas.List.Elements.{All-nil, All-cons, All-from_recursion}
use Rattle.px_cnf.specs.declared.literal.Literal.{Literal}
use Rattle.px_cnf.specs.Clauses.{Assignment, holds, negated, Meets, AreBelow}
use Rattle.px_cnf.specs.Circuits.{Gates, Always, literal, Entry, entry_clause, IsTable, IsGate, parity, majority}
use Rattle.px_cnf.proofs.Meeting.{holds-negated, holds_same}
use Rattle.px_cnf.proofs.Defining.{output_is}

abbrev entry : Bool → List Literal → Entry
entry s ls = record { positive = s; unless = ls }

-- a table of values: which sign the output has unless one of some values is true
abbrev BoolTable : Type 0
BoolTable = List (Bool × List Bool)

abbrev meets_table : Bool → BoolTable → Bool
meets_table z rows = list_all (λ (r : Bool × List Bool). cond r.0 z (not z) || list_any (λ (b : Bool). b) r.1) rows

abbrev table_gives : Bool → BoolTable → Bool
table_gives out rows = list_any (λ (r : Bool × List Bool). beq r.0 out && not (list_any (λ (b : Bool). b) r.1)) rows

-- ---- rows below

below_none : (z : ℕ) → AreBelow z []
below_none z = All-nil (λ (l : Literal). l.variable < z)

below_one : (z : ℕ) (p : Literal) (ls : List Literal) → p.variable < z → AreBelow z ls → AreBelow z (p ∷ ls)
below_one z p ls h k = All-cons (λ (l : Literal). l.variable < z) p ls h k

abbrev rows_of : List Entry → List (List Literal)
rows_of es = map (λ (e : Entry). e.unless) es

-- ---- a constant

abbrev pub constant_entries : List Entry
constant_entries = entry true [] ∷ []

pub constant_table : (z : ℕ) → IsTable z (λ a. true) constant_entries
constant_table z = record {
  below = All-from_recursion (AreBelow z) (rows_of constant_entries) (below_none z, tt);
  met = λ a h. rw h refl;
  given = λ a. refl;
  depends = λ a b s. refl;
}

pub constant_made : (d : Entry) → d ≡ entry true [] → d ∷ [] ≡ constant_entries
constant_made d e = rw e refl

-- ---- both

abbrev pub both_entries : Literal → Literal → List Entry
both_entries p q = entry false (p ∷ []) ∷ entry false (q ∷ []) ∷ entry true (negated p ∷ negated q ∷ []) ∷ []

abbrev both_rows : Bool → Bool → Bool → Bool → BoolTable
both_rows p q np nq = (false, p ∷ []) ∷ (false, q ∷ []) ∷ (true, np ∷ nq ∷ []) ∷ []

both_met_at : (p q : Bool) → meets_table (p && q) (both_rows p q (not p) (not q)) ≡ true
both_met_at true true = refl
both_met_at true false = refl
both_met_at false true = refl
both_met_at false false = refl

both_met : (z p q np nq : Bool) → np ≡ not p → nq ≡ not q → z ≡ (p && q) → meets_table z (both_rows p q np nq) ≡ true
both_met z p q np nq e f h = rw (e, f, h) (both_met_at p q)

both_given_at : (p q : Bool) → table_gives (p && q) (both_rows p q (not p) (not q)) ≡ true
both_given_at true true = refl
both_given_at true false = refl
both_given_at false true = refl
both_given_at false false = refl

both_given : (p q np nq : Bool) → np ≡ not p → nq ≡ not q → table_gives (p && q) (both_rows p q np nq) ≡ true
both_given p q np nq e f = rw (e, f) (both_given_at p q)

pub both_table : (z : ℕ) (p q : Literal) → p.variable < z → q.variable < z → IsTable z (λ a. holds a p && holds a q) (both_entries p q)
both_table z p q i j = record {
  below = All-from_recursion (AreBelow z) (rows_of (both_entries p q))
      (below_one z p [] i (below_none z), (below_one z q [] j (below_none z), (below_one z (negated p) (negated q ∷ []) i (below_one z (negated q) [] j (below_none z)), tt)));
  met = λ a h. both_met (a z) (holds a p) (holds a q) (holds a (negated p)) (holds a (negated q)) (holds-negated a p) (holds-negated a q) h;
  given = λ a. both_given (holds a p) (holds a q) (holds a (negated p)) (holds a (negated q)) (holds-negated a p) (holds-negated a q);
  depends = λ a b s. ap₂ (λ (x y : Bool). x && y) (holds_same z a b p s i) (holds_same z a b q s j);
}

pub both_made : (p q np nq : Literal) (d e f : Entry) → np ≡ negated p → nq ≡ negated q → d ≡ entry false (p ∷ []) → e ≡ entry false (q ∷ []) → f ≡ entry true (np ∷ nq ∷ [])
    → d ∷ e ∷ f ∷ [] ≡ both_entries p q
both_made p q np nq d e f hp hq hd he hf = rw (hd, he, hf, hp, hq) refl

-- ---- the sum and the carry of three bits

abbrev pub parity_entries : Literal → Literal → Literal → List Entry
parity_entries p q r =
    entry false (p ∷ q ∷ r ∷ []) ∷ entry false (p ∷ negated q ∷ negated r ∷ []) ∷ entry false (negated p ∷ q ∷ negated r ∷ []) ∷ entry false (negated p ∷ negated q ∷ r ∷ [])
    ∷ entry true (negated p ∷ q ∷ r ∷ []) ∷ entry true (p ∷ negated q ∷ r ∷ []) ∷ entry true (p ∷ q ∷ negated r ∷ []) ∷ entry true (negated p ∷ negated q ∷ negated r ∷ []) ∷ []

abbrev parity_rows : Bool → Bool → Bool → Bool → Bool → Bool → BoolTable
parity_rows p q r np nq nr =
    (false, p ∷ q ∷ r ∷ []) ∷ (false, p ∷ nq ∷ nr ∷ []) ∷ (false, np ∷ q ∷ nr ∷ []) ∷ (false, np ∷ nq ∷ r ∷ [])
    ∷ (true, np ∷ q ∷ r ∷ []) ∷ (true, p ∷ nq ∷ r ∷ []) ∷ (true, p ∷ q ∷ nr ∷ []) ∷ (true, np ∷ nq ∷ nr ∷ []) ∷ []

parity_met_at : (p q r : Bool) → meets_table (parity p q r) (parity_rows p q r (not p) (not q) (not r)) ≡ true
parity_met_at true true true = refl
parity_met_at true true false = refl
parity_met_at true false true = refl
parity_met_at true false false = refl
parity_met_at false true true = refl
parity_met_at false true false = refl
parity_met_at false false true = refl
parity_met_at false false false = refl

parity_met : (z p q r np nq nr : Bool) → np ≡ not p → nq ≡ not q → nr ≡ not r → z ≡ parity p q r → meets_table z (parity_rows p q r np nq nr) ≡ true
parity_met z p q r np nq nr e f g h = rw (e, f, g, h) (parity_met_at p q r)

parity_given_at : (p q r : Bool) → table_gives (parity p q r) (parity_rows p q r (not p) (not q) (not r)) ≡ true
parity_given_at true true true = refl
parity_given_at true true false = refl
parity_given_at true false true = refl
parity_given_at true false false = refl
parity_given_at false true true = refl
parity_given_at false true false = refl
parity_given_at false false true = refl
parity_given_at false false false = refl

parity_given : (p q r np nq nr : Bool) → np ≡ not p → nq ≡ not q → nr ≡ not r → table_gives (parity p q r) (parity_rows p q r np nq nr) ≡ true
parity_given p q r np nq nr e f g = rw (e, f, g) (parity_given_at p q r)

abbrev pub carry_entries : Literal → Literal → Literal → List Entry
carry_entries p q r =
    entry false (p ∷ q ∷ []) ∷ entry false (p ∷ r ∷ []) ∷ entry false (q ∷ r ∷ [])
    ∷ entry true (negated p ∷ negated q ∷ []) ∷ entry true (negated p ∷ negated r ∷ []) ∷ entry true (negated q ∷ negated r ∷ []) ∷ []

abbrev carry_rows : Bool → Bool → Bool → Bool → Bool → Bool → BoolTable
carry_rows p q r np nq nr =
    (false, p ∷ q ∷ []) ∷ (false, p ∷ r ∷ []) ∷ (false, q ∷ r ∷ [])
    ∷ (true, np ∷ nq ∷ []) ∷ (true, np ∷ nr ∷ []) ∷ (true, nq ∷ nr ∷ []) ∷ []

carry_met_at : (p q r : Bool) → meets_table (majority p q r) (carry_rows p q r (not p) (not q) (not r)) ≡ true
carry_met_at true true true = refl
carry_met_at true true false = refl
carry_met_at true false true = refl
carry_met_at true false false = refl
carry_met_at false true true = refl
carry_met_at false true false = refl
carry_met_at false false true = refl
carry_met_at false false false = refl

carry_met : (z p q r np nq nr : Bool) → np ≡ not p → nq ≡ not q → nr ≡ not r → z ≡ majority p q r → meets_table z (carry_rows p q r np nq nr) ≡ true
carry_met z p q r np nq nr e f g h = rw (e, f, g, h) (carry_met_at p q r)

carry_given_at : (p q r : Bool) → table_gives (majority p q r) (carry_rows p q r (not p) (not q) (not r)) ≡ true
carry_given_at true true true = refl
carry_given_at true true false = refl
carry_given_at true false true = refl
carry_given_at true false false = refl
carry_given_at false true true = refl
carry_given_at false true false = refl
carry_given_at false false true = refl
carry_given_at false false false = refl

carry_given : (p q r np nq nr : Bool) → np ≡ not p → nq ≡ not q → nr ≡ not r → table_gives (majority p q r) (carry_rows p q r np nq nr) ≡ true
carry_given p q r np nq nr e f g = rw (e, f, g) (carry_given_at p q r)

module _ (z : ℕ) (p q r : Literal) (i : p.variable < z) (j : q.variable < z) (k : r.variable < z) where
  two : (a b : Literal) → a.variable < z → b.variable < z → AreBelow z (a ∷ b ∷ [])
  two a b h g = below_one z a (b ∷ []) h (below_one z b [] g (below_none z))

  three : (a b c : Literal) → a.variable < z → b.variable < z → c.variable < z → AreBelow z (a ∷ b ∷ c ∷ [])
  three a b c h g f = below_one z a (b ∷ c ∷ []) h (two b c g f)

  same : (f : Bool → Bool → Bool → Bool) (a b : Assignment) → ((x : ℕ) → x < z → b x ≡ a x) → f (holds b p) (holds b q) (holds b r) ≡ f (holds a p) (holds a q) (holds a r)
  same f a b s = rw (holds_same z a b p s i, holds_same z a b q s j, holds_same z a b r s k) refl

  pub parity_table : IsTable z (λ a. parity (holds a p) (holds a q) (holds a r)) (parity_entries p q r)
  parity_table = record {
    below = All-from_recursion (AreBelow z) (rows_of (parity_entries p q r)) (
      three p q r i j k,
      (
        three p (negated q) (negated r) i j k,
        (
          three (negated p) q (negated r) i j k,
          (
            three (negated p) (negated q) r i j k,
            (three (negated p) q r i j k, (three p (negated q) r i j k, (three p q (negated r) i j k, (three (negated p) (negated q) (negated r) i j k, tt)))),
          ),
        ),
      ),
    );
    met = λ a h. parity_met (a z) (holds a p) (holds a q) (holds a r) (holds a (negated p)) (holds a (negated q)) (holds a (negated r)) (holds-negated a p) (holds-negated a q) (holds-negated a r) h;
    given = λ a. parity_given (holds a p) (holds a q) (holds a r) (holds a (negated p)) (holds a (negated q)) (holds a (negated r)) (holds-negated a p) (holds-negated a q) (holds-negated a r);
    depends = λ a b s. same parity a b s;
  }

  pub carry_table : IsTable z (λ a. majority (holds a p) (holds a q) (holds a r)) (carry_entries p q r)
  carry_table = record {
    below = All-from_recursion (AreBelow z) (rows_of (carry_entries p q r))
        (two p q i j, (two p r i k, (two q r j k, (two (negated p) (negated q) i j, (two (negated p) (negated r) i k, (two (negated q) (negated r) j k, tt))))));
    met = λ a h. carry_met (a z) (holds a p) (holds a q) (holds a r) (holds a (negated p)) (holds a (negated q)) (holds a (negated r)) (holds-negated a p) (holds-negated a q) (holds-negated a r) h;
    given = λ a. carry_given (holds a p) (holds a q) (holds a r) (holds a (negated p)) (holds a (negated q)) (holds a (negated r)) (holds-negated a p) (holds-negated a q) (holds-negated a r);
    depends = λ a b s. same majority a b s;
  }

-- the entries as the code makes them: each of these is one of the table, by the negations that it names
pub parity_made : (p q r np nq nr : Literal) (a b c d e f g h : Entry) → np ≡ negated p → nq ≡ negated q → nr ≡ negated r
    → a ≡ entry false (p ∷ q ∷ r ∷ []) → b ≡ entry false (p ∷ nq ∷ nr ∷ []) → c ≡ entry false (np ∷ q ∷ nr ∷ []) → d ≡ entry false (np ∷ nq ∷ r ∷ [])
    → e ≡ entry true (np ∷ q ∷ r ∷ []) → f ≡ entry true (p ∷ nq ∷ r ∷ []) → g ≡ entry true (p ∷ q ∷ nr ∷ []) → h ≡ entry true (np ∷ nq ∷ nr ∷ [])
    → a ∷ b ∷ c ∷ d ∷ e ∷ f ∷ g ∷ h ∷ [] ≡ parity_entries p q r
parity_made p q r np nq nr a b c d e f g h hp hq hr ha hb hc hd he hf hg hh = rw (ha, hb, hc, hd, he, hf, hg, hh, hp, hq, hr) refl

pub carry_made : (p q r np nq nr : Literal) (a b c d e f : Entry) → np ≡ negated p → nq ≡ negated q → nr ≡ negated r
    → a ≡ entry false (p ∷ q ∷ []) → b ≡ entry false (p ∷ r ∷ []) → c ≡ entry false (q ∷ r ∷ [])
    → d ≡ entry true (np ∷ nq ∷ []) → e ≡ entry true (np ∷ nr ∷ []) → f ≡ entry true (nq ∷ nr ∷ [])
    → a ∷ b ∷ c ∷ d ∷ e ∷ f ∷ [] ≡ carry_entries p q r
carry_made p q r np nq nr a b c d e f hp hq hr ha hb hc hd he hf = rw (ha, hb, hc, hd, he, hf, hp, hq, hr) refl

-- ---- what a call that defines a gate owes and gives

pub gate_of : (z : ℕ) (output : Assignment → Bool) (es ds : List Entry) → ds ≡ es → IsTable z output es → IsGate z ds
gate_of z output es ds e t = subst (IsGate z) (sym e) (record { output = output; table = t })

pub output_of : (z : ℕ) (output : Assignment → Bool) (es ds : List Entry) (g : Gates) (r : Result Literal NoMemory) → ds ≡ es → IsTable z output es
    → IfOk r (λ l. l ≡ literal z true) → OnOk r (Always g (λ a. Meets a (map (entry_clause z) ds))) → IfOk r (λ l. Always g (λ a. holds a l ≡ output a))
output_of z output es ds g (Ok l) e t h k = λ a m.
    ap (holds a) h ∙ output_is z output es t a (subst (λ (x : List Entry). Meets a (map (entry_clause z) x)) e (k a m))
output_of z output es ds g (Err x) e t h k = tt
