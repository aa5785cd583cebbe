-- What is owed for a message.
use Rattle.std.proofs.Common.{◌≡◌, ◌≢◌, sym, subst, ◌∙◌, ap, arith, inl, inr, ℕ, ◌<◌, ◌≤◌, List, length, if◌then◌else◌}
use Rattle.std.specs.Prelude.{◌⊎◌}
use Rattle.std.proofs.lemmas.Bool.{lt-ltb, le-ltb}
use Rattle.px_base.specs.Bounds.{most_variables}
use Rattle.px_callgraph.specs.JobTree.{JobTree}
use Rattle.px_frames.specs.Frames.{most_bytes}
use Rattle.px_explore.specs.declared.results.Analysis.{Analysis}
use Rattle.px_explore.specs.Own.{IsAnalysis}
use Rattle.px_wire.specs.Messages.{MessageTree, request, reply, IsMessage}
use Rattle.px_wire.specs.Versions.{Sent, message_tree, HasVersion, SpellsIn}
use Rattle.px_wire.specs.Laws.{OneSpelling}
use Rattle.px_worker.specs.Answers.{AsksIn, in_frame, reply_to, IsOwed}

-- ---- what is asked

-- a version is one of two
pub one_or_two : (version : ℕ) (bytes : List ℕ) (m : MessageTree) → SpellsIn version bytes m → (version ≡ 1) ⊎ (version ≡ 2)
one_or_two version bytes m (is, within, inl one) = inl one
one_or_two version bytes m (is, within, inr (two, few)) = inr two

-- the same bytes spell the same
pub spelled_so : (v w : ℕ) (bytes : List ℕ) (m n : MessageTree) → SpellsIn v bytes m → m ≡ n → w ≡ v → SpellsIn w bytes n
spelled_so v w bytes m n p is same = subst (λ x. SpellsIn x bytes n) (sym same) (subst (λ t. SpellsIn v bytes t) is p)

-- a job of a message has few parameters
pub few : (version : ℕ) (message : List ℕ) (j : JobTree) → SpellsIn version message (request j) → length j.body.parameters ≤ most_variables
few version message j (is, ((proc, (slots, (count, small, all), result, commands, size), types, callees, limits, kinds, ticket), within), has) = omega arith

-- a message that is no request of a known version asks for nothing
pub asks_nothing : OneSpelling → (known version : ℕ) (message : List ℕ) (m : MessageTree) → SpellsIn version message m →
    ((j : JobTree) → version ≤ known → m ≢ request j) → (j : JobTree) → ¬ AsksIn known message j
asks_nothing one known version message m spelled none j (other, is_known, asks) =
    let same : (version ≡ other) × (m ≡ request j) = one.one_told message version other m (request j) spelled asks in
    none j (subst (λ v. v ≤ known) (sym same.0) is_known) same.1

-- ---- what is said

pub fits : (a b : List ℕ) → length a ≤ most_bytes → in_frame a b ≡ a
fits a b short = ap (λ t. if t then b else a) (le-ltb most_bytes (length a) short)

pub too_long : (a b : List ℕ) → most_bytes < length a → in_frame a b ≡ b
too_long a b long = ap (λ t. if t then b else a) (lt-ltb most_bytes (length a) long)

-- the reply to a job that is so analysed
abbrev pub reply_of : JobTree → Analysis → MessageTree
reply_of j a = reply j.ticket j.kinds a.table a.derivations

-- its bytes spell it
abbrev pub IsSentInRange : Sent → Type 0
IsSentInRange m = IsMessage (message_tree m) × HasVersion m.version (message_tree m)

-- of such a reply
pub owed_is : (known version : ℕ) (numbers message answer : List ℕ) (j : JobTree) (a : Analysis) → length message ≤ most_bytes → version ≤ known → SpellsIn version message (request j) →
    j.kinds ≡ numbers → IsAnalysis j a → answer ≡ reply_to version j.kinds j a → IsMessage (reply_of j a) × HasVersion version (reply_of j a) → IsOwed known numbers message answer
owed_is known version numbers message answer j a short is_known asks own analysed is within = record {
  short = short;
  version = version;
  is_known = is_known;
  job = j;
  asks = asks;
  own = own;
  analysis = a;
  is_analysis = analysed;
  answer_is = is ∙ ap (λ k. reply_to version k j a) own;
  in_range = subst (λ k. IsMessage (reply j.ticket k a.table a.derivations)) own within.0;
  in_version = subst (λ k. HasVersion version (reply j.ticket k a.table a.derivations)) own within.1;
}
