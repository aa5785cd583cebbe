-- A body is read again as it was written, and as nothing else.
use Rattle.std.proofs.Common.{◌≡◌, ℕ, suc, List, [], ◌∷◌, ◌++◌, Some, ap, ◌∙◌, arith}
use Rattle.std.specs.Prelude.{Result, Ok, Err, IfOk}
use Rattle.px_spelling.specs.declared.fault.WireFault.{WireFault}
use Rattle.std.specs.List.{AllByRecursion}
use Rattle.px_base.specs.Bounds.{most_parameters, most_commands}
use Rattle.px_core.specs.BodyTree.{BodyTree}
use Rattle.px_spelling.specs.Reading.{Gives}
use Rattle.px_spelling.specs.Numbers.{IsU8}
use Rattle.px_spelling.specs.Lists.{list_bytes, option_bytes}
use Rattle.px_spelling.specs.Types.{value_type_bytes, IsValueType, value_type_at}
use Rattle.px_spelling.specs.Numbers.{u32_bytes}
use Rattle.px_spelling.proofs.RoundTrip.{RoundTrip, done_reads, ◌⊛◌, u32_round_trip, list_round_trip, option_round_trip}
use Rattle.px_spelling.proofs.TypeRoundTrips.{value_type_round_trip}
use Rattle.px_body_spelling.specs.Commands.{commands_at, command_at}
use Rattle.px_body_spelling.specs.Bodies.{body_bytes, IsBody, body_of, body_at}
use Rattle.px_body_spelling.specs.Laws.{AreBytes}
use Rattle.px_body_spelling.proofs.CommandRoundTrips.{commands_round_trip}
use Rattle.px_body_spelling.proofs.Spells as S
use Rattle.px_body_spelling.proofs.PartsSpelled.{value_type_spelled}
use Rattle.px_body_spelling.proofs.CommandsSpelled.{CommandsOf, lists_spelled, command_spelled}

pub body_round_trip : RoundTrip body_bytes IsBody body_at
unfolding body_at
body_round_trip b fits = done_reads body_of ⊛ u32_round_trip b.slots fits.0
    ⊛ list_round_trip value_type_bytes IsValueType value_type_at most_parameters value_type_round_trip b.parameters fits.1
    ⊛ option_round_trip value_type_bytes IsValueType value_type_at value_type_round_trip b.result fits.2
    ⊛ commands_round_trip b.commands fits.3 most_commands most_commands (omega arith) fits.4 fits.4

abbrev BodyOf : BodyTree → List ℕ → Type 0
BodyOf b text = (text ≡ body_bytes b) × IsBody b

body_spelled : S.Spelled body_at BodyOf
unfolding body_at
body_spelled =
    S.app_spelled _ (commands_at most_commands most_commands) (CommandsOf most_commands) BodyOf
    (S.◌⊛◌ (S.◌⊛◌ (S.◌⊛◌ (S.done_spelled body_of (λ slots p parameters q result r cs u k.
    (ap (λ z. u32_bytes slots ++ list_bytes value_type_bytes parameters ++ option_bytes value_type_bytes result ++ z) k.0, (p, q, r, k.1, k.2))))
    S.u32_spelled) (S.list_spelled value_type_at value_type_bytes IsValueType most_parameters value_type_spelled))
    (S.option_spelled value_type_at value_type_bytes IsValueType value_type_spelled))
    (lists_spelled (command_at most_commands) (command_spelled most_commands) most_commands)

all_bytes : (bytes : List ℕ) → AreBytes bytes → AllByRecursion IsU8 bytes
all_bytes [] are = tt
all_bytes (b ∷ bytes) are = (are 0, all_bytes bytes (λ i. are (suc i)))

pub body_is_spelled : (bytes : List ℕ) → AreBytes bytes → (b : BodyTree) (rest : List ℕ) → body_at bytes ≡ Some (b, rest) → (bytes ≡ body_bytes b ++ rest) × IsBody b
body_is_spelled bytes are b rest e =
    let k = body_spelled.spelled bytes (all_bytes bytes are) b rest e in
    (k.split ∙ ap (λ z. z ++ rest) k.is.0, k.is.1)

-- what a function gave, which gives what is read, is spelled by the bytes
pub given_is_spelled : {X : Type 0} (view : X → BodyTree × List ℕ) (bytes : List ℕ) → AreBytes bytes → (r : Result X WireFault) → Gives view r (body_at bytes) →
    IfOk r (λ x. (bytes ≡ body_bytes (view x).0 ++ (view x).1) × IsBody (view x).0)
given_is_spelled view bytes are (Ok x) h = body_is_spelled bytes are (view x).0 (view x).1 h
given_is_spelled view bytes are (Err e) h = tt
