-- What a driver's type keeps, and what it is later.
use Rattle.std.proofs.Common.{◌≡◌, ◌⊎◌, refl, sym, subst, ◌∙◌, arith, ℕ, ◌+◌, ◌≤◌}
use Rattle.std.specs.Prelude.{Option, Some, None, Err, IfSome}
use Rattle.px_entry.specs.declared.tables.Table.{Table}
use Rattle.px_callgraph.specs.declared.jobs.Job.{Job}
use Rattle.px_callgraph.specs.JobTree.{JobTree, job_tree}
use Rattle.px_pieces.specs.declared.desk.Lost.{Lost as ALost}
use Rattle.px_pool.specs.Talks.{Talk, Passes, IsFresh, nothing, followed_by}
use Rattle.px_pool.specs.Words.{IsInStep}
use Rattle.px_pool.specs.Starts.{GaveFrames}
use Rattle.px_pool.specs.Outcomes.{request_of, IsAnswered, IsCauseOf, CountsFaults}
use Rattle.px_pool.proofs.LinkTalks.{new_in_step, passes_nothing, passes_follow, gave_one_more, frames_are_given}
use Rattle.px_drivers.specs.declared.driver.DriverState.{DriverState}
use Rattle.px_drivers.specs.declared.driver.DriverState.TheVariants.{Ready, Lost, NoMemory}
use Rattle.px_drivers.specs.Drivers.{DriverParts, counted, StandsAt, IsKept, GoesOn, IsDriven}

-- ---- what its type keeps

pub kept_new : (number version : ℕ) (told : Option Talk) (faults first losses earlier : ℕ) → (version ≡ 1) ⊎ (version ≡ 2) → first ≡ faults → IsFresh told →
    IsKept (record { number = number; version = version; told = told; faults = faults; first = first; state = Ready; kept = None; receipts = 0; losses = losses; earlier = earlier })
kept_new number version told faults first losses earlier known is fresh = record { version = known; stands = (new_in_step told fresh, sym is); backed = frames_are_given.none told }

pub ready_stands : (d : DriverParts) → d.state ≡ Ready → IsKept d → IsInStep d.told × (d.faults ≡ d.first)
ready_stands d is kept = subst (λ (s : DriverState). StandsAt d s) is kept.stands

pub fewer_given : (t : Option Talk) (m n : ℕ) → m ≤ n → GaveFrames t n → GaveFrames t m
fewer_given None m n few gave = tt
fewer_given (Some a) m n few gave = λ k frames. (let l : n ≤ k = gave k frames in omega arith)

pub one_at_most : (o : Option ℕ) → IfSome o (λ n. n ≡ 1) → counted o ≤ 1
one_at_most None one = omega arith
one_at_most (Some n) one = omega arith

-- One exchange more was answered, and there is a receipt for it, or none. The count of faults is as it was.
pub answered_kept : (number version : ℕ) (old new : Option Talk) (faults faults' first : ℕ) (state : DriverState) (kept : Option Job) (r r' losses earlier more : ℕ) (j : JobTree) (t : Table) →
    (version ≡ 1) ⊎ (version ≡ 2) → state ≡ Ready → IsInStep old × (faults ≡ first) → GaveFrames old r → ((x : Talk) × Passes old new x × IsAnswered version j x t) → IsInStep new → faults' ≡ faults → r' ≡ r + more → more ≤ 1 →
    IsKept (record { number = number; version = version; told = new; faults = faults'; first = first; state = state; kept = kept; receipts = r'; losses = losses; earlier = earlier })
answered_kept number version old new faults faults' first state kept r r' losses earlier more j t known is ready gave (x, passes, (m, given, table)) step same count few = record {
  version = known;
  stands = subst (λ (s : DriverState). StandsAt (record { number = number; version = version; told = new; faults = faults'; first = first; state = state; kept = kept; receipts = r'; losses = losses; earlier = earlier }) s) (sym is) (step, same ∙ ready.1);
  backed = fewer_given new r' (r + 1) (omega arith)
      (gave_one_more old new (request_of version j) m r ready.0 given.given_short (subst (λ (y : Talk). Passes old new y) given.talk passes) gave);
}

-- An exchange was refused for this cause.
pub refused_kept : (number version : ℕ) (old new : Option Talk) (faults faults' first : ℕ) (job : Job) (why : ALost) (r losses earlier : ℕ) → (version ≡ 1) ⊎ (version ≡ 2) → IsInStep old × (faults ≡ first) → GaveFrames old r →
    ((x : Talk) × Passes old new x × IsCauseOf version (job_tree job) x why) → CountsFaults {T = Unit {0}} faults faults' (Err why) →
    IsKept (record { number = number; version = version; told = new; faults = faults'; first = first; state = Lost why; kept = Some job; receipts = r; losses = losses; earlier = earlier })
refused_kept number version old new faults faults' first job why r losses earlier known ready gave (x, passes, cause) counts = record {
  version = known;
  stands = (job, refl, record { before = old; step = ready.0; passed = x; passes = passes; cause = cause; faults = subst (λ n. CountsFaults {T = Unit {0}} n faults' (Err why)) ready.1 counts });
  backed = frames_are_given.later old new x r ready.0 passes gave;
}

-- ---- later

pub goes_nowhere : (a : DriverParts) → GoesOn a a
goes_nowhere a = record { number = refl; version = refl; first = refl; passed = nothing; passes = passes_nothing a.told; receipts = omega arith; losses = refl; earlier = refl }

pub goes_on : (a b c : DriverParts) → GoesOn a b → GoesOn b c → GoesOn a c
goes_on a b c p q = record {
  number = q.number ∙ p.number;
  version = q.version ∙ p.version;
  first = q.first ∙ p.first;
  passed = followed_by p.passed q.passed;
  passes = passes_follow a.told b.told c.told p.passed q.passed p.passes q.passes;
  receipts = (let l : a.receipts ≤ b.receipts = p.receipts in let m : b.receipts ≤ c.receipts = q.receipts in omega arith);
  losses = q.losses ∙ p.losses;
  earlier = q.earlier ∙ p.earlier;
}

never_lost : (why : ALost) → ◌≡◌ {A = DriverState} Ready (Lost why) → ⊥
never_lost why e = cc

never_lost_either : (why : ALost) → ◌≡◌ {A = DriverState} NoMemory (Lost why) → ⊥
never_lost_either why e = cc

pub lost_stays : (a : DriverParts) → IsDriven a a
lost_stays a = record { later = goes_nowhere a; lost = λ why e. refl }

pub driven_ready : (a b : DriverParts) → a.state ≡ Ready → GoesOn a b → IsDriven a b
driven_ready a b is later = record { later = later; lost = λ why e. absurd (never_lost why (sym is ∙ e)) }

pub driven_again : (a b : DriverParts) → a.state ≡ NoMemory → GoesOn a b → IsDriven a b
driven_again a b is later = record { later = later; lost = λ why e. absurd (never_lost_either why (sym is ∙ e)) }
