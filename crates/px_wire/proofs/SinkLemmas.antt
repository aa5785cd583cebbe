-- What a sink takes, one piece after another.
use Rattle.std.proofs.Common.{◌≡◌, ℕ, List, [], ◌∷◌, ◌++◌, take, drop, length, Bool, true, false, refl, sym, ap, subst, ◌∙◌, append_assoc, append-nil, arith}
use Rattle.std.specs.Prelude.{Option, Result, Ok, Err, OnOk, OnErr, is_err, ⊤}
use Rattle.std.specs.Io.KnownBytes.{Appends}
use Rattle.std.proofs.lemmas.List.{take-append-drop, take_at, length-append}
use Rattle.px_io.specs.declared.sink.Failed.{Failed}
use Rattle.px_io.specs.Faults.{HasCause, RoseOnce}
use Rattle.px_io.specs.Pieces.{WritesPieces}
use Rattle.px_io.specs.Told.{AppendsPrefix}
use Rattle.px_io.proofs.TellingLemmas.{Appends-trans, Appends-nil}
use Rattle.px_wire.specs.Sinks.{IsLeft, Took, IsWritten}

module _ {S : Type 0} (told : S → Option (List ℕ)) (takes : S → List ℕ → Result ℕ Failed → S → Type 0) (count : S → ℕ) where
  -- pieces, and then others
  pieces_more : (s t u : S) (ps qs : List (List ℕ)) → WritesPieces takes s ps t → WritesPieces takes t qs u → WritesPieces takes s (ps ++ qs) u
  pieces_more s t u [] qs h k = subst (λ z. WritesPieces takes z qs u) h k
  pieces_more s t u (p ∷ ps) qs h k = (h.0, (h.1.0, h.1.1, h.1.2, pieces_more h.1.0 t u ps qs h.1.3 k))

  -- nothing was given yet
  pub took_nothing : (from : S) → Took told takes count from false [] [] from
  took_nothing from = record {
    gone = [];
    left = [];
    all = refl;
    wrote = Appends-nil (told from);
    pieces = [];
    in_pieces = refl;
    never_falls = omega arith;
    left_is = (refl, refl);
  }

  -- once a write has failed, it doesn't matter what is held
  pub took_failed : (from to : S) (held other given : List ℕ) → Took told takes count from true held given to → Took told takes count from true other given to
  took_failed from to held other given h = record {
    gone = h.gone;
    left = h.left;
    all = h.all;
    wrote = h.wrote;
    pieces = h.pieces;
    in_pieces = h.in_pieces;
    never_falls = h.never_falls;
    left_is = h.left_is;
  }

  still_left : (failed : Bool) (held left more : List ℕ) (before now : ℕ) → IsLeft failed held left before now → IsLeft failed (held ++ more) (left ++ more) before now
  still_left false held left more before now h = (ap (λ z. z ++ more) h.0, h.1)
  still_left true held left more before now h = h

  -- more is given, and held
  pub took_held : (from to : S) (failed : Bool) (held given more : List ℕ) → Took told takes count from failed held given to → Took told takes count from failed (held ++ more) (given ++ more) to
  took_held from to failed held given more h = record {
    gone = h.gone;
    left = h.left ++ more;
    all = ap (λ z. z ++ more) h.all ∙ append_assoc h.gone h.left more;
    wrote = h.wrote;
    pieces = h.pieces;
    in_pieces = h.in_pieces;
    never_falls = h.never_falls;
    left_is = still_left failed held h.left more (count from) (count to) h.left_is;
  }

  -- where nothing is held
  pub took_given : (from to : S) (failed : Bool) (used : ℕ) (bytes given more : List ℕ) → used ≡ 0
      → Took told takes count from failed (take used bytes) given to → Took told takes count from failed more (given ++ more) to
  took_given from to failed used bytes given more none h =
      let empty : Took told takes count from failed [] given to = subst (λ n. Took told takes count from failed (take n bytes) given to) none h in
      took_held from to failed [] given more empty

  -- what is held is written
  pub took_sent : (from s t : S) (held given : List ℕ) (r : Result ⊤ Failed) → OnOk r (Appends (told s) (told t) held) → OnErr r (AppendsPrefix (told s) (told t) held)
      → (pieces : List (List ℕ)) × WritesPieces takes s pieces t → HasCause (count s) (count t) r → Took told takes count from false held given s → Took told takes count from (is_err r) [] given t
  took_sent from s t held given (Ok x) all part pieces cause h = record {
    gone = h.gone ++ h.left;
    left = [];
    all = h.all ∙ sym (append-nil (h.gone ++ h.left));
    wrote = Appends-trans (told from) (told s) (told t) h.gone held (h.gone ++ h.left) h.wrote all (ap (λ z. h.gone ++ z) h.left_is.0);
    pieces = h.pieces ++ pieces.0;
    in_pieces = pieces_more from s t h.pieces pieces.0 h.in_pieces pieces.1;
    never_falls = omega (arith, h.never_falls, cause.never_falls);
    left_is = (refl, cause.unfailed ∙ h.left_is.1);
  }
  took_sent from s t held given (Err e) all part pieces cause h =
      let taken : List ℕ = take part.0 held in
      let behind : List ℕ = drop part.0 held in
      let parts : h.left ≡ taken ++ behind = h.left_is.0 ∙ sym (take-append-drop part.0 held) in
      record {
        gone = h.gone ++ taken;
        left = behind;
        all = h.all ∙ ap (λ z. h.gone ++ z) parts ∙ sym (append_assoc h.gone taken behind);
        wrote = Appends-trans (told from) (told s) (told t) h.gone taken (h.gone ++ taken) h.wrote part.2 refl;
        pieces = h.pieces ++ pieces.0;
        in_pieces = pieces_more from s t h.pieces pieces.0 h.in_pieces pieces.1;
        never_falls = omega (arith, h.never_falls, cause.never_falls);
        left_is = subst (λ n. RoseOnce n (count t)) h.left_is.1 cause.failed;
      }

  -- in the end all is written, or a front of it
  pub all_written : (from to : S) (used : ℕ) (bytes given : List ℕ) → used ≡ 0 → Took told takes count from false (take used bytes) given to → IsWritten told takes count from given (Ok tt) to
  all_written from to used bytes given none h =
      let whole : given ≡ h.gone = h.all ∙ ap (λ z. h.gone ++ z) (h.left_is.0 ∙ ap (λ n. take n bytes) none) ∙ append-nil h.gone in
      record {
        all = subst (λ z. Appends (told from) (told to) z) (sym whole) h.wrote;
        part = tt;
        pieces = (h.pieces, h.in_pieces);
        cause = record { never_falls = h.never_falls; failed = tt; unfailed = h.left_is.1 };
      }

  pub part_written : (from to : S) (held given : List ℕ) (e : Failed) → Took told takes count from true held given to → IsWritten told takes count from given (Err e) to
  part_written from to held given e h = record {
    all = tt;
    part = (
      length h.gone,
      rw h.all (omega (arith, length-append h.gone h.left)),
      subst (λ z. Appends (told from) (told to) z) (sym (ap (take (length h.gone)) h.all ∙ take_at h.gone h.left (length h.gone) refl)) h.wrote,
    );
    pieces = (h.pieces, h.in_pieces);
    cause = record { never_falls = h.never_falls; failed = h.left_is; unfailed = tt };
  }
