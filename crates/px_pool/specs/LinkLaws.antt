-- What an exchange needs to know of a link: what passes one after another, and what one frame more on both sides leaves.
use Rattle.std.specs.Prelude.{◌≡◌, ℕ, ◌+◌, ◌≤◌, List, [], ◌++◌, length, false, Option, Some, None, ⊤}
use Rattle.px_entry.specs.declared.tables.Table.{Table}
use Rattle.px_entry.specs.declared.derivations.Derivation.{Derivation}
use Rattle.px_callgraph.specs.JobTree.{JobTree}
use Rattle.px_frames.specs.Frames.{frame_of, most_bytes}
use Rattle.px_wire.specs.Messages.{request, reply}
use Rattle.px_wire.specs.Versions.{SpellsIn}
use Rattle.px_pool.specs.Talks.{Talk, Passes, IsFresh, nothing, followed_by}
use Rattle.px_pool.specs.Words.{IsFrameAt, IsWordKept, IsInStep}
use Rattle.px_pool.specs.Starts.{HasFrames, GaveFrames}

-- a link over which nothing passed is in step
abbrev pub NewLinksAreInStep : Type 0
NewLinksAreInStep = (t : Option Talk) → IsFresh t → IsInStep t

-- Where no call was made nothing passed, and what passes one after another passes as one.
abbrev pub TalksFollow : Type 0
TalksFollow =
    ((a : Option Talk) → Passes a a nothing)
    × ((a b c : Option Talk) (x y : Talk) → Passes a b x → Passes b c y → Passes a c (followed_by x y))

-- the frame of this message is sent, and the frame of that one given
abbrev pub exchanges : List ℕ → List ℕ → Talk
exchanges asked given = record { sent = frame_of asked; given = frame_of given; ended = false }

-- of the frames that were sent and given, these two have the same place
abbrev pub ArePaired : Option Talk → List ℕ → List ℕ → Type 0
ArePaired None asked given = ⊤
ArePaired (Some talk) asked given = (n : ℕ) × IsFrameAt talk.sent n asked × IsFrameAt talk.given n given

-- Where a link is in step, and one frame is sent and one is given, it is in step again and the two have the same place.
abbrev pub ExchangesKeepStep : Type 0
ExchangesKeepStep = (old new : Option Talk) (asked given : List ℕ) → IsInStep old → length asked ≤ most_bytes → length given ≤ most_bytes →
    Passes old new (exchanges asked given) → IsInStep new × ArePaired new asked given

-- a word that is kept holds of the job and the table in two frames of one version that have the same place
abbrev pub WordsAreOfPairs : (JobTree → Table → Type 0) → Type 0
WordsAreOfPairs says = (talk : Option Talk) (asked given : List ℕ) (v : ℕ) (j : JobTree) (t : Table) (ds : List Derivation) →
    IsWordKept says talk → ArePaired talk asked given → SpellsIn v asked (request j) → SpellsIn v given (reply j.ticket j.kinds t ds) → says j t

-- How many whole frames bytes begin with: it is one number, none where there are no bytes, and more bytes never lower it.
pub record FramesAreCounted : Type 0 where
  pub none : HasFrames [] 0
  pub one_number : (bytes : List ℕ) (m n : ℕ) → HasFrames bytes m → HasFrames bytes n → m ≡ n
  pub more_bytes : (bytes more : List ℕ) (m n : ℕ) → HasFrames bytes m → HasFrames (bytes ++ more) n → m ≤ n

-- Where a link is in step, and one frame is sent and one is given, it has given exactly one whole frame more.
abbrev pub ExchangesGiveOneFrame : Type 0
ExchangesGiveOneFrame = (old new : Talk) (asked given : List ℕ) (n : ℕ) → IsInStep (Some old) → length given ≤ most_bytes →
    Passes (Some old) (Some new) (exchanges asked given) → HasFrames old.given n → HasFrames new.given (n + 1)

-- How many whole frames a link gave at least, where it tells its bytes: of one that is in step, whatever passes takes none away,
-- and one frame that is sent and one that is given make one more.
pub record FramesAreGiven : Type 0 where
  pub none : (t : Option Talk) → GaveFrames t 0
  pub later : (old new : Option Talk) (x : Talk) (n : ℕ) → IsInStep old → Passes old new x → GaveFrames old n → GaveFrames new n
  pub exchanged : (old new : Option Talk) (asked given : List ℕ) (n : ℕ) → IsInStep old → length given ≤ most_bytes →
      Passes old new (exchanges asked given) → GaveFrames old n → GaveFrames new (n + 1)
