-- What is said of all paths is said of those of any request.
use Rattle.std.proofs.Common.{ℕ, List, ◌++◌}
use Rattle.std.specs.List.{AllByRecursion}
use Rattle.px_loading.proofs.Allowed.{all_of}
use Rattle.px_top.specs.Words.{Request, command, how_to_use, no_words, a_report, a_keep, a_worker, a_sample, optional, AreAllowed}

pub all_allowed : (P : List ℕ → Type 0) → ((name : List ℕ) → P name) → (r : Request) → AreAllowed (λ names. AllByRecursion P names) r
all_allowed P h (command (a_report c)) = all_of P (c.files ++ optional c.kept) h
all_allowed P h (command (a_keep c)) = all_of P c.files h
all_allowed P h (command a_worker) = tt
all_allowed P h (command (a_sample s)) = tt
all_allowed P h how_to_use = tt
all_allowed P h no_words = tt
