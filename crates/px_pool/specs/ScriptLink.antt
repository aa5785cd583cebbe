-- A link in memory.
use Rattle.std.specs.Prelude.{◌≡◌, ℕ, ◌+◌, ◌-◌, ◌^◌, ◌<◌, ◌⊎◌, ⊤, min, List, length, vec_capacity, take, drop, Bool, ◌||◌, ◌&&◌, ◌==◌, nat_lt, IsTrue, ◌↔◌, Result, IsErr, IfOk, OnErr}
use Rattle.std.specs.List.{list_any}
use Rattle.px_io.specs.declared.sink.Failed.{Failed}
use Rattle.px_pool.specs.declared.script.Script.{Script}
use Rattle.px_pool.specs.declared.script_link.ScriptLink.{ScriptLink}
use Rattle.px_pool.specs.Talks.{Talk, nothing}

-- what passed over it: the bytes of its script that it gave are the first of them
abbrev pub talk_of : ScriptLink → Talk
talk_of s = record { sent = s.sent.items; given = take s.at s.script.bytes.items; ended = s.ended }

-- the bytes of its script that are still to come
abbrev pub left : ScriptLink → List ℕ
left s = drop s.at s.script.bytes.items

-- nothing passed over it and nothing has failed; this is its script
pub record IsNew (s : ScriptLink) (script : Script) : Type 0 where
  pub script_is : s.script ≡ script
  pub fresh : talk_of s ≡ nothing
  pub first_send : s.sends ≡ 0
  pub first_receive : s.receives ≡ 0
  pub unfailed : s.faults ≡ 0

-- a call of `send` fails now, whatever it is sent: its number is listed
abbrev pub send_fails : ScriptLink → Bool
send_fails s = list_any (λ call. call == s.sends) s.script.failing_sends.items

-- how many bytes a call gives that has room for so many
abbrev pub given_at_once : ScriptLink → ℕ → ℕ
given_at_once s room = min (min room s.script.most) (length (left s))

-- a call with this room fails now: its number is listed, or nothing can be given though there is room and bytes are left
abbrev pub receive_fails : ScriptLink → ℕ → Bool
receive_fails s room =
    list_any (λ call. call == s.receives) s.script.failing_receives.items || (given_at_once s room == 0 && (nat_lt 0 room && nat_lt 0 (length (left s))))

-- The link is sent these bytes, answers this, and leaves that: the next call. One that isn't listed fails only where there was no
-- room for the bytes, and one that fails sends nothing.
pub record Takes (s : ScriptLink) (bytes : List ℕ) (answer : Result ⊤ Failed) (t : ScriptLink) : Type 0 where
  pub script_stays : t.script ≡ s.script
  pub receives_stay : t.receives ≡ s.receives
  pub counted : t.sends ≡ min (s.sends + 1) (2 ^ 64 - 1)
  pub listed : IsTrue (send_fails s) → IsErr answer
  pub failed : OnErr answer (IsTrue (send_fails s) ⊎ (vec_capacity s.sent < length s.sent.items + length bytes))
  pub unsent : OnErr answer (talk_of t ≡ talk_of s)

-- A call of `receive` with this room gives this, and leaves that: the next call.
pub record Gives (s : ScriptLink) (room : ℕ) (answer : Result (List ℕ) Failed) (t : ScriptLink) : Type 0 where
  pub script_stays : t.script ≡ s.script
  pub sends_stay : t.sends ≡ s.sends
  pub counted : t.receives ≡ min (s.receives + 1) (2 ^ 64 - 1)
  pub failed : IsErr answer ↔ IsTrue (receive_fails s room)
  pub gave : IfOk answer (λ bytes. bytes ≡ take (given_at_once s room) (left s))
