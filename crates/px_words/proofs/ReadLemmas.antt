-- What `clap` answers for the words, and what they mean.
use Rattle.std.proofs.Common.{arith, ◌≡◌, ◌∙◌, ◌≤◌, suc, true, false, refl, sym, ap, inl, inr, List, [], ◌∷◌, length, None}
use Rattle.std.proofs.lemmas.Str.{IsUtf8-string_bytes}
use Rattle.std.specs.Prelude.{String}
use Rattle.std.specs.List.{AllByRecursion}
use Rattle.std.specs.Str.{IsUtf8}
use Rattle.std.specs.declared.alloc.Global.{Global}
use Rattle.clap.specs.Lexer.{usize_max}
use Rattle.clap.specs.Kinds.{Kinds, HasKind}
use Rattle.clap.specs.Words.{App, HasMatchesOf, kind_of, rows_of, found_of, fault_of, matches_of, is_simple, is_simple_and_free}
use Rattle.clap.specs.declared.error.Error.{Error}
use Rattle.clap.specs.declared.error.kind.ErrorKind.TheVariants.{OutOfMemory}
use Rattle.clap.specs.declared.parser.matches.ArgMatches.{ArgMatches}
use Rattle.px_base.specs.Texts.{texts}
use Rattle.px_words.specs.Meaning.{meaning_of, keep_of}
use Rattle.px_words.specs.ClapCommand.{words_app, command_found, keep_found}
use Rattle.px_words.proofs.ClapRules.{is_plain_app, is_simple_app}
use Rattle.px_words.proofs.ClapSteps.{is_fine}
use Rattle.px_words.proofs.CommandLemmas.{refused, taken, keep_refused, keep_taken}

all_text : (ws : List (String Global)) → AllByRecursion IsUtf8 (texts ws)
all_text [] = tt
all_text (w ∷ ws) = (IsUtf8-string_bytes w, all_text ws)

length_texts : (ws : List (String Global)) → length (texts ws) ≡ length ws
length_texts [] = refl
length_texts (w ∷ ws) = ap suc (length_texts ws)

module _ (ws : List (String Global)) (few : length ws ≤ usize_max) (a : App) (is : a ≡ words_app) where
  room : length (texts ws) ≤ usize_max
  room = omega (arith, length_texts ws)

  pub ok_is : (m : ArgMatches) → HasMatchesOf a (texts ws) m → (is_simple_and_free a ≡ true → fault_of a (texts ws) ≡ []) → command_found (rows_of (found_of m)) ≡ meaning_of (texts ws)
  ok_is m has fine =
      let none : fault_of words_app (texts ws) ≡ [] = sym (ap (λ (x : App). fault_of x (texts ws)) is) ∙ fine (ap is_simple_and_free is ∙ is_plain_app) in
      ap command_found ((has (ap is_simple is ∙ is_simple_app)).0 ∙ ap (λ (x : App). matches_of x (texts ws)) is) ∙ taken (texts ws) (all_text ws) room (ap is_fine none)

  pub keep_ok_is : (m : ArgMatches) → HasMatchesOf a (texts ws) m → (is_simple_and_free a ≡ true → fault_of a (texts ws) ≡ []) → keep_found (rows_of (found_of m)) ≡ keep_of (texts ws)
  keep_ok_is m has fine =
      let none : fault_of words_app (texts ws) ≡ [] = sym (ap (λ (x : App). fault_of x (texts ws)) is) ∙ fine (ap is_simple_and_free is ∙ is_plain_app) in
      ap keep_found ((has (ap is_simple is ∙ is_simple_app)).0 ∙ ap (λ (x : App). matches_of x (texts ws)) is) ∙ keep_taken (texts ws) (all_text ws) room (ap is_fine none)

  some_fault : (ks : Kinds) (e : Error) → HasKind ks e → (kind_of e ≡ OutOfMemory → ⊥) → is_fine ks ≡ false
  some_fault [] e h other = elim h [ inl x ↦ absurd (other x) | inr x ↦ absurd x ]
  some_fault (k ∷ ks) e h other = refl

  not_fine : (e : Error) → (is_simple_and_free a ≡ true → HasKind (fault_of a (texts ws)) e) → (kind_of e ≡ OutOfMemory → ⊥) → is_fine (fault_of words_app (texts ws)) ≡ false
  not_fine e has other =
      sym (ap (λ (x : App). is_fine (fault_of x (texts ws))) is) ∙ some_fault (fault_of a (texts ws)) e (has (ap is_simple_and_free is ∙ is_plain_app)) other

  pub err_is : (e : Error) → (is_simple_and_free a ≡ true → HasKind (fault_of a (texts ws)) e) → (kind_of e ≡ OutOfMemory → ⊥) → None ≡ meaning_of (texts ws)
  err_is e has other = sym (refused (texts ws) (all_text ws) room (not_fine e has other))

  pub keep_err_is : (e : Error) → (is_simple_and_free a ≡ true → HasKind (fault_of a (texts ws)) e) → (kind_of e ≡ OutOfMemory → ⊥) → None ≡ keep_of (texts ws)
  keep_err_is e has other = sym (keep_refused (texts ws) (all_text ws) room (not_fine e has other))
