-- How the classes of bytes lie in one another.
use Rattle.std.proofs.Common.{◌≡◌, ℕ, false, arith}
use Rattle.sql_locks.specs.Text.{is_in_class}
use Rattle.sql_locks.specs.declared.byte_classes.ByteClass.TheVariants.{Name, Tag}

-- what stands in no name stands in no dollar tag
pub no_tag : (b : ℕ) → is_in_class Name b ≡ false → is_in_class Tag b ≡ false
no_tag b outside = grind (arith, outside)
