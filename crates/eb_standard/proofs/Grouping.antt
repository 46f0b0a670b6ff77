-- Symbols put a few at a time.
use Rattle.std.proofs.Common.{◌≡◌, ℕ, List, [], ◌∷◌, ◌++◌, sym, ap, ◌∙◌, append-nil, append_assoc}
use Rattle.corner_table.specs.declared.symbols.Symbol.{Symbol}
use Rattle.eb_standard.specs.SymbolBits.{symbol_bits, reversed_bits}

-- the bits of symbols and more behind them: those of the latter come first
reversed_bits-append : (xs ys : List Symbol) → reversed_bits (xs ++ ys) ≡ reversed_bits ys ++ reversed_bits xs
reversed_bits-append [] ys = sym (append-nil (reversed_bits ys))
reversed_bits-append (x ∷ xs) ys =
    ap (λ bits. bits ++ symbol_bits x) (reversed_bits-append xs ys) ∙ append_assoc (reversed_bits ys) (reversed_bits xs) (symbol_bits x)

-- the last symbols of those that were left are put
pub put_last : (before after put : List ℕ) (left rest group whole : List Symbol)
    → before ++ reversed_bits left ≡ reversed_bits whole → left ≡ rest ++ group → put ≡ reversed_bits group → after ≡ before ++ put
    → after ++ reversed_bits rest ≡ reversed_bits whole
put_last before after put left rest group whole so cut is done =
    ap (λ bits. bits ++ reversed_bits rest) (done ∙ ap (λ bits. before ++ bits) is)
    ∙ append_assoc before (reversed_bits group) (reversed_bits rest)
    ∙ ap (λ bits. before ++ bits) (sym (ap reversed_bits cut ∙ reversed_bits-append rest group))
    ∙ so
