-- Whether given callees are those of a procedure.
use Rattle.std.proofs.Common.{◌≡◌, ℕ, zero, suc, ◌+◌, ◌<◌, ◌≤◌, List, [], ◌∷◌, ◌++◌, length, get_or, take, map, Bool, refl, sym, ap, ◌∙◌, subst, arith, All}
use Rattle.std.proofs.lemmas.List.{length-map, take_more, take_all, get_or_default}
use Rattle.px_base.specs.declared.trace.ProcId.{ProcId}
use Rattle.px_callgraph.specs.Callees.{IsCallee}
use Rattle.px_callgraph.specs.Working.{numbers_of}
use Rattle.px_symexec.specs.One.{Work, IsKnown}
use Rattle.px_pieces.specs.declared.findings.Part.{Part}
use Rattle.px_jobs.specs.Plans.{IsPlan, IsReady, AreCallees, tables_at}
use Rattle.px_jobs.proofs.CalleeLemmas.{Known, KnownIf, AreFirst, first_more, all_callees}
use Rattle.px_jobs.proofs.JobLemmas.{numbers, read, numbers_are}

read_number : (called : List ProcId) (k : ℕ) (d : ProcId) → get_or (numbers_of called) k d.0 ≡ (get_or called k d).0
read_number [] k d = refl
read_number (c ∷ called) zero d = refl
read_number (c ∷ called) (suc k) d = read_number called k d

module _ (graph : List (List ℕ)) (out : List Bool) (parts : List Part) (f : ℕ) (called : List ProcId) (cs : List Known) (is : numbers_of called ≡ get_or graph f []) (inside : f < length graph) where
  -- ---- where they are

  pub first_none : AreFirst graph out parts f called 0 (take 0 cs)
  first_none = record { numbers = refl; each = λ w plan ready k d l. let n : ⊥ = omega arith in absurd n }

  pub next_same : (i : ℕ) (x : Known) (e : ProcId) → i < length cs → i < length called → x ≡ get_or cs i x → x.0.0 ≡ (get_or called i e).0 →
      ((w : Work) → IsPlan w graph out → IsCallee w.bodies f (get_or called i e).0 → IsKnown w (tables_at parts) f (get_or called i e).0 x.1) → AreFirst graph out parts f called i (take i cs) → AreFirst graph out parts f called (i + 1) (take (i + 1) cs)
  next_same i x e l m item at known h =
      first_more graph out parts f called i e (take i cs) (take (i + 1) cs) x m (ap (λ n. proc_of n) at)
      (λ w plan ready calls. subst (λ n. IsKnown w (tables_at parts) f n x.1) (sym at) (known w plan (subst (IsCallee w.bodies f) at calls)))
      (take_more cs i x l ∙ ap (λ z. take i cs ++ z ∷ []) (sym item)) h
    where
      proc_of : ℕ → ProcId
      proc_of n = record { 0 = n }

  pub all_same : (w : Work) (i : ℕ) → length called ≤ i → length cs ≤ i → AreFirst graph out parts f called i (take i cs) → IsPlan w graph out → IsReady w parts f → AreCallees w (tables_at parts) f cs
  all_same w i e m h plan ready =
      let whole : take i cs ≡ cs = take_all i cs m in
      let all : take i called ≡ called = take_all i called e in
      all_callees w graph out parts f called cs inside is (ap (map (λ (c : Known). c.0)) (sym whole) ∙ h.numbers ∙ all) plan (subst (λ z. All (KnownIf w (tables_at parts) f) z) whole (h.each w plan ready))

  -- ---- what they are

  module _ (w : Work) (plan : IsPlan w graph out) (h : AreCallees w (tables_at parts) f cs) where
    same : numbers cs ≡ numbers_of called
    same = numbers_are w f (tables_at parts) cs (get_or graph f []) h (plan.graph.rising f [] inside) (λ g. (plan.graph.callees f g).0) (λ g. (plan.graph.callees f g).1) ∙ sym is

    pub as_many : length called ≡ length cs
    as_many = sym (length-map called (λ (p : ProcId). p.0)) ∙ ap length (sym same) ∙ length-map cs (λ (c : Known). c.0.0)

    pub number_at : (k : ℕ) (x : Known) (e : ProcId) → k < length cs → x ≡ get_or cs k x → x.0.0 ≡ (get_or called k e).0
    number_at k x e l item =
        ap (λ (c : Known). c.0.0) item ∙ sym (read cs k x) ∙ ap (λ z. get_or z k x.0.0) same ∙ read_number called k x.0
        ∙ ap (λ (p : ProcId). p.0) (get_or_default called k x.0 e (let m = as_many in omega arith))

    pub callee_at : (k : ℕ) (x : Known) (e : ProcId) → k < length cs → x ≡ get_or cs k x → IsCallee w.bodies f (get_or called k e).0
    callee_at k x e l item = subst (IsCallee w.bodies f) (ap (λ (c : Known). c.0.0) (sym item) ∙ number_at k x e l item) (h.each k x l).0

    pub known_at : (k : ℕ) (x : Known) (e : ProcId) → k < length cs → x ≡ get_or cs k x → IsKnown w (tables_at parts) f (get_or called k e).0 x.1
    known_at k x e l item =
        subst (λ n. IsKnown w (tables_at parts) f n x.1) (number_at k x e l item)
        (subst (λ (c : Known). IsKnown w (tables_at parts) f c.0.0 c.1) (sym item) (h.each k x l).1)
