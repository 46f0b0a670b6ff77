-- The integers of an attribute that were opened.
use Rattle.std.specs.Prelude.{ℤ, List, map}
use Rattle.attr_section.specs.Values.{signed_of}
use Rattle.attr_section.specs.declared.integers.Integers.{Integers}
use Rattle.attr_section.specs.declared.integers.Integers.TheVariants.{Coded, Symbols, Plain}

-- all of them, those that are still to come included
abbrev pub integers_of : Integers → List ℤ
integers_of (Coded integers) = integers
integers_of (Symbols symbols) = map signed_of symbols.items
integers_of (Plain integers) = integers.items
