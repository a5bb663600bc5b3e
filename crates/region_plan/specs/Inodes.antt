-- An inode leaf: the first leaf of an object, with all of it but its content.
use Rattle.std.specs.Prelude.{ℕ, ◌≡◌, ◌+◌, ◌-◌, nat_le, Bool, true, ◌&&◌, List, drop}
use Rattle.std.specs.Int.{w32, from_le_bytes}
use Rattle.std.specs.List.{slice_index}
use Rattle.tee_base.specs.declared.limits.TheConstants.{MAX_IDENTIFIER_BYTES, MAX_SECRET_BYTES}
use Rattle.region_plan.specs.Parts.{part, are_zero}
use Rattle.region_plan.specs.declared.inode.Inode.{Inode}
use Rattle.region_plan.specs.declared.inode.TheConstants.{USAGE_AT, LENGTH_AT, IDENTIFIER_LENGTH_AT, SECRET_LENGTH_AT, IDENTIFIER_AT, SECRET_AT, REST_AT}

-- the number of four bytes at a place of an inode leaf
abbrev pub four_at : ℕ → List ℕ → ℕ
four_at at bytes = from_le_bytes w32 (part at 4 bytes)

-- how many bytes of content the object has
unfoldable pub length_in : List ℕ → ℕ
length_in bytes = four_at LENGTH_AT bytes

-- its identifier, as long as its length says
unfoldable pub identifier_in : List ℕ → List ℕ
identifier_in bytes = part IDENTIFIER_AT (slice_index bytes IDENTIFIER_LENGTH_AT) bytes

-- its secret, as long as its length says
unfoldable pub secret_in : List ℕ → List ℕ
secret_in bytes = part SECRET_AT (slice_index bytes SECRET_LENGTH_AT) bytes

-- what the leaf of a number tells of its object
unfoldable pub inode_of : ℕ → List ℕ → Inode
inode_of number bytes = record {
  number = number;
  kind = four_at 0 bytes;
  usage = four_at USAGE_AT bytes;
  length = length_in bytes;
  id = identifier_in bytes;
  secret = secret_in bytes;
}

-- the rules on the bytes of an inode leaf: lengths within their limits, and zeros wherever nothing stands
unfoldable pub is_inode_leaf : List ℕ → Bool
is_inode_leaf bytes =
    nat_le (slice_index bytes IDENTIFIER_LENGTH_AT) MAX_IDENTIFIER_BYTES
    && (nat_le (slice_index bytes SECRET_LENGTH_AT) MAX_SECRET_BYTES
    && (are_zero (part (SECRET_LENGTH_AT + 1) 2 bytes)
    && (are_zero (part (IDENTIFIER_AT + slice_index bytes IDENTIFIER_LENGTH_AT) (MAX_IDENTIFIER_BYTES - slice_index bytes IDENTIFIER_LENGTH_AT) bytes)
    && (are_zero (part (SECRET_AT + slice_index bytes SECRET_LENGTH_AT) (MAX_SECRET_BYTES - slice_index bytes SECRET_LENGTH_AT) bytes)
    && are_zero (drop REST_AT bytes)))))

-- what an inode leaf says of its object but for the content
pub record IsHead (bytes : List ℕ) (kind usage : ℕ) (id secret : List ℕ) (long : ℕ) : Type 0 where
  pub rules : is_inode_leaf bytes ≡ true
  pub is_kind : four_at 0 bytes ≡ kind
  pub is_usage : four_at USAGE_AT bytes ≡ usage
  pub is_id : identifier_in bytes ≡ id
  pub is_secret : secret_in bytes ≡ secret
  pub is_long : length_in bytes ≡ long
