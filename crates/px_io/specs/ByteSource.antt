-- A source in memory.
use Rattle.std.specs.Prelude.{◌≡◌, ℕ, ◌+◌, ◌-◌, ◌^◌, min, List, length, take, drop, Bool, ◌||◌, ◌&&◌, ◌==◌, nat_lt, IsTrue, ◌↔◌, Result, IsErr, IfOk}
use Rattle.std.specs.List.{list_any}
use Rattle.px_io.specs.declared.sink.Failed.{Failed}
use Rattle.px_io.specs.declared.byte_source.ByteSource.{ByteSource}

-- the bytes that are still to come
abbrev pub left : ByteSource → List ℕ
left s = drop s.at s.bytes.items

-- none of these bytes was read and nothing has failed; this is the most that it gives in a call, and the calls that fail
pub record IsNew (s : ByteSource) (bytes : List ℕ) (most : ℕ) (failing : List ℕ) : Type 0 where
  pub whole : left s ≡ bytes
  pub most_is : s.most ≡ most
  pub failing_is : s.failing.items ≡ failing
  pub first : s.calls ≡ 0
  pub unfailed : s.faults ≡ 0

-- how many bytes a read gives that has room for so many
abbrev pub given : ByteSource → ℕ → ℕ
given s room = min (min room s.most) (length (left s))

-- a read with this room fails now: the call's number is listed, or nothing can be given though bytes are left
abbrev pub fails : ByteSource → ℕ → Bool
fails s room = list_any (λ call. call == s.calls) s.failing.items || (given s room == 0 && (nat_lt 0 room && nat_lt 0 (length (left s))))

-- a read with this room gives this, and leaves that: the next call
pub record Gives (s : ByteSource) (room : ℕ) (answer : Result (List ℕ) Failed) (t : ByteSource) : Type 0 where
  pub most_stays : t.most ≡ s.most
  pub failing_stays : t.failing ≡ s.failing
  pub counted : t.calls ≡ min (s.calls + 1) (2 ^ 64 - 1)
  pub failed : IsErr answer ↔ IsTrue (fails s room)
  pub gave : IfOk answer (λ bytes. bytes ≡ take (given s room) (left s))
