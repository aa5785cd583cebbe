-- How an operand begins, and how it goes on.
use Rattle.std.specs.Prelude.{List, [], ◌∷◌, length, Bool, true, false, Ok, Err, if◌then◌else◌}
use Rattle.px_base.specs.declared.trace.Site.{Site}
use Rattle.px_expressions.specs.Reading.{or_else}
use Rattle.px_real_expressions.specs.declared.terminal.Terminal.{Terminal}
use Rattle.px_real_expressions.specs.declared.terminal.Terminal.TheVariants as T
use Rattle.px_real_expressions.specs.declared.operators.Prefix.{Prefix}
use Rattle.px_real_expressions.specs.declared.operators.Measure.{Measure}
use Rattle.px_real_expressions.specs.Lexemes.{Lexeme, front}
use Rattle.px_real_expressions.specs.Operators.{prefix_of, wants_unary, measure_of, front_by}
use Rattle.px_real_expressions.specs.ExpressionTree.{ExpressionTree, name, constant, string, parenthesised, statement, literal, prefixed, measure, measure_type, cast}
use Rattle.px_real_expressions.specs.Stops.{wrong, deep, ◌>>=◌, expect}
use Rattle.px_real_expressions.specs.Reading.{Reader, Readers, closed_at, type_at, braces_at, after_strings, typed_front, form_at, label_at, shut_measure, suffixes_at}
use Rattle.px_real_symbols.specs.Symbols.{held_in}
use Rattle.px_real_reading.specs.declared.heads.Head.{Head}
use Rattle.px_real_reading.specs.declared.heads.Head.TheVariants as H
use Rattle.px_real_reading.specs.Trees.{expression_tree}

pub data HeadTree : Type 0 where
  before : Prefix → Site → HeadTree
  measures : Measure → Site → HeadTree
  casts : Site → List Lexeme → HeadTree
  -- a whole operand, and one that suffixes may follow
  alone : ExpressionTree → HeadTree
  first_of : ExpressionTree → HeadTree
  group : Site → HeadTree

abbrev pub head_tree : List Lexeme → Head → HeadTree
head_tree all (H.Before p s) = before p s
head_tree all (H.Measures m s) = measures m s
head_tree all (H.Casts s held) = casts s (held_in all held)
head_tree all (H.Alone e) = alone (expression_tree all e)
head_tree all (H.First e) = first_of (expression_tree all e)
head_tree all (H.Group s) = group s

-- what follows `sizeof` and its like
unfoldable pub measure_head : Bool → Measure → Lexeme → Reader HeadTree
measure_head may m t ts = or_else (typed_front ts)
    (λ o. closed_at T.CloseParenthesis type_at o.1 >>= λ x. or_else (front T.OpenBrace x.1)
    (λ b. if may then Ok (measures m t.site, ts) else Err (deep x.1))
    (Ok (alone (measure_type m t.site x.0), x.1)))
    (if may then Ok (measures m t.site, ts) else Err (shut_measure ts))

-- what follows the parenthesis that opens a type's name
unfoldable pub typed_head : Bool → Lexeme → Reader HeadTree
typed_head only o ts = closed_at T.CloseParenthesis type_at ts >>= λ x. or_else (front T.OpenBrace x.1)
    (λ b. braces_at b.1 >>= λ y. Ok (first_of (literal o.site x.0 y.0), y.1))
    (if only then Err (wrong x.1) else Ok (casts o.site x.0, x.1))

-- what follows a parenthesis that opens no type's name
unfoldable pub group_head : Lexeme → Reader HeadTree
group_head o ts = or_else (front T.OpenBrace ts)
    (λ b. braces_at b.1 >>= λ x. expect T.CloseParenthesis x.1 >>= λ c. Ok (first_of (statement o.site x.0), c.1))
    (Ok (group o.site, ts))

abbrev pub primary_head_by : Terminal → Lexeme → Reader HeadTree
primary_head_by T.Name t ts = Ok (first_of (name t.text t.site), ts)
primary_head_by T.Constant t ts = Ok (first_of (constant t.value t.site), ts)
primary_head_by T.String t ts = Ok (first_of (string t.site), after_strings ts)
primary_head_by T.Form t ts = form_at t ts >>= λ x. Ok (first_of x.0, x.1)
primary_head_by T.OpenParenthesis t ts = group_head t ts
primary_head_by _ t ts = Err (wrong (t ∷ ts))

unfoldable pub primary_head : Reader HeadTree
primary_head [] = Err (wrong [])
primary_head (t ∷ ts) = primary_head_by t.terminal t ts

-- how an operand begins, where a unary expression only may stand or a cast too, and one more may be opened or not
unfoldable pub head_at : Bool → Bool → Reader HeadTree
head_at only may ts = or_else (front_by prefix_of ts) (λ x. if may then Ok (before x.0 x.1.site, x.2) else Err (deep (x.1 ∷ x.2)))
    (or_else (front T.AndAnd ts) (λ x. label_at x.0 x.1 >>= λ y. Ok (alone y.0, y.1))
    (or_else (front_by measure_of ts) (λ x. measure_head may x.0 x.1 x.2)
    (or_else (typed_front ts) (λ o. typed_head only o.0 o.1)
    (primary_head ts))))

-- the rest of an operand that begins so
abbrev pub after_head : HeadTree → Readers → Reader ExpressionTree
after_head (before p s) r ts = r.operand_reader (wants_unary p) ts >>= λ y. Ok (prefixed p s y.0, y.1)
after_head (measures m s) r ts = r.operand_reader true ts >>= λ y. Ok (measure m s y.0, y.1)
after_head (casts s held) r ts = r.operand_reader false ts >>= λ y. Ok (cast s held y.0, y.1)
after_head (alone e) r ts = Ok (e, ts)
after_head (first_of e) r ts = suffixes_at r (length ts) e ts
after_head (group s) r ts = closed_at T.CloseParenthesis r.expression_reader ts >>= λ x. suffixes_at r (length x.1) (parenthesised s x.0) x.1
