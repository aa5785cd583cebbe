-- A sink in memory.
use Rattle.std.specs.Prelude.{◌≡◌, ℕ, ◌+◌, ◌-◌, ◌^◌, ◌≤◌, min, List, [], length, vec_capacity, Bool, ◌||◌, ◌&&◌, ◌==◌, nat_lt, IsTrue, ◌↔◌, Result, IsErr, IfOk}
use Rattle.std.specs.List.{list_any}
use Rattle.px_io.specs.declared.sink.Failed.{Failed}
use Rattle.px_io.specs.declared.byte_sink.ByteSink.{ByteSink}

-- the bytes that were written to it
abbrev pub written : ByteSink → List ℕ
written s = s.bytes.items

-- nothing was written to it and nothing has failed; this is its room, the most that it takes in a call,
-- and the calls that fail
pub record IsNew (s : ByteSink) (room most : ℕ) (failing : List ℕ) : Type 0 where
  pub empty : written s ≡ []
  pub room_is : vec_capacity s.bytes ≡ room
  pub most_is : s.most ≡ most
  pub failing_is : s.failing.items ≡ failing
  pub first : s.calls ≡ 0
  pub unfailed : s.faults ≡ 0

-- how many bytes of a piece have room and may be taken in a call
abbrev pub taken : ByteSink → List ℕ → ℕ
taken s piece = min (min (length piece) s.most) (vec_capacity s.bytes - length s.bytes.items)

-- a write of this piece fails now: the call's number is listed, or nothing can be taken of a piece that isn't empty
abbrev pub fails : ByteSink → List ℕ → Bool
fails s piece = list_any (λ call. call == s.calls) s.failing.items || (taken s piece == 0 && nat_lt 0 (length piece))

-- a write of this piece answers this, and leaves that: the next call
pub record Takes (s : ByteSink) (piece : List ℕ) (answer : Result ℕ Failed) (t : ByteSink) : Type 0 where
  pub most_stays : t.most ≡ s.most
  pub room_stays : vec_capacity s.bytes ≤ vec_capacity t.bytes
  pub failing_stays : t.failing ≡ s.failing
  pub counted : t.calls ≡ min (s.calls + 1) (2 ^ 64 - 1)
  pub failed : IsErr answer ↔ IsTrue (fails s piece)
  pub took : IfOk answer (λ n. n ≡ taken s piece)
