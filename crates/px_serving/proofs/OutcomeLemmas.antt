-- How a worker ends over whole requests.
use Rattle.std.proofs.Common.{◌≡◌, refl, sym, subst, inl, inr, ℕ, List}
use Rattle.std.specs.Prelude.{◌⊎◌, ⊤, Option, Some, Result, Ok, Err}
use Rattle.px_io.specs.Faults.{Rose, HasCauseOf}
use Rattle.px_io.proofs.FaultLemmas.{rose_once}
use Rattle.px_lines.specs.declared.cause.Cause.TheVariants as C
use Rattle.px_lines.specs.declared.status.Status.TheVariants.{Done}
use Rattle.px_worker.specs.declared.faults.ServeFault.{ServeFault}
use Rattle.px_worker.specs.declared.faults.ServeFault.TheVariants.{Read, Write, Bad, Kinds, NoMemory}
use Rattle.px_worker.specs.Stops.{AreRequests}
use Rattle.px_worker.specs.Served.{Serves}
use Rattle.px_worker.specs.Laws.{WholeInputs}
use Rattle.px_serving.specs.Works.{ended_of}
use Rattle.px_serving.specs.Laws.{WholeRequestsAreServed}

ends : WholeInputs → (kinds requests : List ℕ) (source' sink sink' : Option (List ℕ)) (a b x y : ℕ) (outcome : Result ⊤ ServeFault) → Serves 2 kinds (Some requests) source' sink sink' outcome →
    HasCauseOf Read a b outcome → HasCauseOf Write x y outcome → AreRequests 2 kinds requests → ¬ Rose a b → ¬ Rose x y → (ended_of outcome ≡ Ok Done) ⊎ (ended_of outcome ≡ Err C.NoMemory)
ends whole kinds requests source' sink sink' a b x y (Ok _) s read write are unread unwritten = inl refl
ends whole kinds requests source' sink sink' a b x y (Err Read) s read write are unread unwritten = absurd (unread (rose_once a b (read.because refl)))
ends whole kinds requests source' sink sink' a b x y (Err Write) s read write are unread unwritten = absurd (unwritten (rose_once x y (write.because refl)))
ends whole kinds requests source' sink sink' a b x y (Err (Bad n)) s read write are unread unwritten = absurd (whole.never_bad 2 kinds requests source' sink sink' n s are)
ends whole kinds requests source' sink sink' a b x y (Err (Kinds n)) s read write are unread unwritten = absurd (whole.never_others 2 kinds requests source' sink sink' n s are)
ends whole kinds requests source' sink sink' a b x y (Err NoMemory) s read write are unread unwritten = inr refl

pub served : WholeInputs → WholeRequestsAreServed
served whole kinds requests input out ended w is are unread unwritten =
    subst (λ n. (n ≡ Ok Done) ⊎ (n ≡ Err C.NoMemory)) (sym w.ended_is)
    (ends whole kinds requests input.new out.old out.new input.before input.now out.before out.now w.outcome
    (subst (λ old. Serves 2 kinds old input.new out.old out.new w.outcome) is w.serves) w.read_cause w.write_cause are unread unwritten)
