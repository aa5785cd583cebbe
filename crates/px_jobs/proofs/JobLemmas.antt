-- A procedure has one job under a ticket, and it depends on the tables of those that it calls below alone.
use Rattle.std.proofs.Common.{◌≡◌, ℕ, zero, suc, ◌<◌, List, [], ◌∷◌, length, get_or, map, Option, refl, sym, ap, ◌∙◌, subst, arith, All, AllPairs, Any, Contains}
use Rattle.std.proofs.lemmas.List.{length-map}
use Rattle.std.proofs.lemmas.Option.{same_Some}
use Rattle.px_base.specs.LimitNumbers.{LimitNumbers}
use Rattle.px_terms.specs.declared.types.BlockType.{BlockType}
use Rattle.px_core.specs.BodyTree.{BodyTree}
use Rattle.px_entry.specs.declared.tables.Table.{Table}
use Rattle.px_callgraph.specs.declared.jobs.Callee.{Callee}
use Rattle.px_callgraph.specs.declared.jobs.Callee.TheVariants as callee
use Rattle.px_callgraph.specs.JobTree.{JobTree}
use Rattle.px_callgraph.specs.Callees.{IsCallee}
use Rattle.px_symexec.specs.One.{Work, IsKnown, IsJob}
use Rattle.px_symexec.proofs.OneLemmas.{same_known}
use Rattle.px_jobs.specs.Plans.{AreCallees}
use Rattle.px_jobs.specs.Laws.{AgreeBelow, JobsStay, SameJobs}
use Rattle.px_jobs.proofs.CalleeLemmas.{Known}
use Rattle.px_jobs.proofs.RisingLemmas.{Has, rises_from, same_rising, has_from, has_to}

-- ---- other tables

known_stays : (w : Work) (f g : ℕ) (a b : ℕ → Option Table) → AgreeBelow w f a b → IsCallee w.bodies f g → (c : Callee) → IsKnown w a f g c → IsKnown w b f g c
known_stays w f g a b same calls (callee.Table t) h = (h.0, h.1, sym (same g calls h.0 h.1) ∙ h.2)
known_stays w f g a b same calls callee.Cycle h = h
known_stays w f g a b same calls callee.LeftOut h = h
known_stays w f g a b same calls callee.Unknown h = h

pub jobs_stay : JobsStay
jobs_stay w f a b same j h = record {
  proc = h.proc;
  body = h.body;
  types = h.types;
  limits = h.limits;
  kinds = h.kinds;
  rising = h.rising;
  all = h.all;
  each = λ k d l. let at = h.each k d l in (at.0, known_stays w f (get_or j.callees k d).0.0 a b same at.0 (get_or j.callees k d).1 at.1);
}

-- ---- all of them

abbrev pub numbers : List Known → List ℕ
numbers = map (λ (c : Known). c.0.0)

pub read : (known : List Known) (k : ℕ) (d : Known) → get_or (numbers known) k d.0.0 ≡ (get_or known k d).0.0
read [] k d = refl
read (c ∷ known) zero d = refl
read (c ∷ known) (suc k) d = read known k d

has_any : (known : List Known) (g : ℕ) → Any (λ (c : Known). c.0.0 ≡ g) known → Has (numbers known) g
has_any known g (k, d, l, e, h) = has_from (numbers known) g (k, (let n = length-map known (λ (c : Known). c.0.0) in omega arith), at)
  where
    at : get_or (numbers known) k g ≡ g
    at = subst (λ n. get_or (numbers known) k n ≡ n) h (read known k d ∙ ap (λ (c : Known). c.0.0) e)

pairs : (known : List Known) → AllPairs (λ (c d : Known). c.0.0 < d.0.0) known → AllPairs (λ a b. a < b) (numbers known)
pairs known h i j d l m =
    let n = length-map known (λ (c : Known). c.0.0) in
    let z : Known = (record { 0 = d }, callee.Cycle) in
    subst (λ a. a < get_or (numbers known) j d) (sym (read known i z)) (subst (λ b. (get_or known i z).0.0 < b) (sym (read known j z)) (h i j z l (omega arith)))

-- the number of one that is called is among them, and no other
module _ (w : Work) (f : ℕ) (tables : ℕ → Option Table) where
  pub calls_of : (cs : List Known) → AreCallees w tables f cs → (g : ℕ) → Has (numbers cs) g → IsCallee w.bodies f g
  calls_of cs h g i = by (has_to (numbers cs) g i)
    where
      by : Contains (numbers cs) g → IsCallee w.bodies f g
      by (k, l, e) =
          let z : Known = (record { 0 = g }, callee.Cycle) in
          let n = length-map cs (λ (c : Known). c.0.0) in
          subst (IsCallee w.bodies f) (sym (read cs k z) ∙ e) (h.each k z (omega arith)).0

  -- as many, of the same numbers
  pub numbers_are : (cs : List Known) (ns : List ℕ) → AreCallees w tables f cs → AllPairs (λ a b. a < b) ns → ((g : ℕ) → Contains ns g → IsCallee w.bodies f g) → ((g : ℕ) → IsCallee w.bodies f g → Contains ns g) → numbers cs ≡ ns
  numbers_are cs ns h rising called all = same_rising (numbers cs) ns (rises_from (numbers cs) (pairs cs h.rising)) (rises_from ns rising)
      (λ g i. has_from ns g (all g (calls_of cs h g i))) (λ g i. has_any cs g (h.all g (called g (has_to ns g i))))

  abbrev Each : List Known → Type 0
  Each [] = Unit {0}
  Each (c ∷ cs) = IsKnown w tables f c.0.0 c.1 × Each cs

  each_from : (cs : List Known) → All (λ (c : Known). IsCallee w.bodies f c.0.0 × IsKnown w tables f c.0.0 c.1) cs → Each cs
  each_from [] h = tt
  each_from (c ∷ cs) h = ((h 0 c (let l : 0 < suc (length cs) = omega arith in l)).1, each_from cs (λ k d l. h (suc k) d (let m : suc k < suc (length cs) = omega arith in m)))

  by_numbers : (cs ds : List Known) → numbers cs ≡ numbers ds → Each cs → Each ds → cs ≡ ds
  by_numbers [] [] e h k = refl
  by_numbers [] (d ∷ ds) e h k = let n : ⊥ = cc in absurd n
  by_numbers (c ∷ cs) [] e h k = let n : ⊥ = cc in absurd n
  by_numbers (c ∷ cs) (d ∷ ds) e h k =
      let first : c.0.0 ≡ d.0.0 = cc in
      let rest : numbers cs ≡ numbers ds = cc in
      let known : c.1 ≡ d.1 = same_known w tables tables f d.0.0 (λ t n. refl) c.1 d.1 (subst (λ n. IsKnown w tables f n c.1) first h.0) k.0 in
      ap (λ n. known_of n c.1 ∷ cs) first ∙ ap (λ x. known_of d.0.0 x ∷ cs) known ∙ ap (λ zs. d ∷ zs) (by_numbers cs ds rest h.1 k.1)
    where
      known_of : ℕ → Callee → Known
      known_of n x = (record { 0 = n }, x)

  pub same_callees : (cs ds : List Known) → AreCallees w tables f cs → AreCallees w tables f ds → cs ≡ ds
  same_callees cs ds h k =
      by_numbers cs ds (numbers_are cs (numbers ds) h (pairs ds k.rising) (λ g i. calls_of ds k g (has_from (numbers ds) g i)) (λ g c. has_to (numbers ds) g (has_any ds g (k.all g c))))
      (each_from cs h.each) (each_from ds k.each)

-- ---- jobs

abbrev job_from : ℕ → BodyTree → List BlockType → List Known → LimitNumbers → List ℕ → ℕ → JobTree
job_from proc body types callees limits kinds ticket = record { proc = record { 0 = proc }; body = body; types = types; callees = callees; limits = limits; kinds = kinds; ticket = ticket }

callees_in : (w : Work) (f : ℕ) (tables : ℕ → Option Table) (j : JobTree) → IsJob w tables f j → AreCallees w tables f j.callees
callees_in w f tables j h = record { rising = h.rising; all = h.all; each = h.each }

pub same_jobs : SameJobs
same_jobs w f tables i j h k ticket =
    let proc : i.proc.0 ≡ j.proc.0 = h.proc ∙ sym k.proc in
    let body : i.body ≡ j.body = same_Some i.body j.body (sym h.body ∙ k.body) in
    let types : i.types ≡ j.types = h.types ∙ sym k.types in
    let limits : i.limits ≡ j.limits = h.limits ∙ sym k.limits in
    let kinds : i.kinds ≡ j.kinds = h.kinds ∙ sym k.kinds in
    let callees : i.callees ≡ j.callees = same_callees w f tables i.callees j.callees (callees_in w f tables i h) (callees_in w f tables j k) in
    ap (λ z. job_from z i.body i.types i.callees i.limits i.kinds i.ticket) proc
    ∙ ap (λ z. job_from j.proc.0 z i.types i.callees i.limits i.kinds i.ticket) body
    ∙ ap (λ z. job_from j.proc.0 j.body z i.callees i.limits i.kinds i.ticket) types
    ∙ ap (λ z. job_from j.proc.0 j.body j.types z i.limits i.kinds i.ticket) callees
    ∙ ap (λ z. job_from j.proc.0 j.body j.types j.callees z i.kinds i.ticket) limits
    ∙ ap (λ z. job_from j.proc.0 j.body j.types j.callees j.limits z i.ticket) kinds
    ∙ ap (λ z. job_from j.proc.0 j.body j.types j.callees j.limits j.kinds z) ticket
