-- What passes over a link while one frame is sent and one is read.
use Rattle.std.proofs.Common.{subst, List, ℕ, [], ◌++◌, Bool, false, append-nil}
use Rattle.std.specs.Prelude.{Option}
use Rattle.px_pool.specs.Talks.{Talk, Passes, nothing, sends}
use Rattle.px_pool.proofs.LinkTalks.{passes_follow}
use Rattle.px_pool.specs.Outcomes.{gave}
use Rattle.px_pool.specs.Reading.{Gives}

pub gives_on : (a b c : Option Talk) (xs ys : List ℕ) (e : Bool) → Gives a b xs false → Gives b c ys e → Gives a c (xs ++ ys) e
gives_on a b c xs ys e p q = passes_follow a b c (gave [] xs false) (gave [] ys e) p q

pub gives_no_more : (a b c : Option Talk) (xs : List ℕ) → Gives a b xs false → Passes b c nothing → Gives a c xs false
gives_no_more a b c xs p q = subst (λ z. Gives a c z false) (append-nil xs) (passes_follow a b c (gave [] xs false) nothing p q)

-- a frame is sent, and then bytes are given
pub sent_then : (a b c : Option Talk) (frame bytes : List ℕ) (e : Bool) → Passes a b (sends frame) → Gives b c bytes e → Passes a c (gave frame bytes e)
sent_then a b c frame bytes e p q = subst (λ z. Passes a c (gave z bytes e)) (append-nil frame) (passes_follow a b c (sends frame) (gave [] bytes e) p q)
