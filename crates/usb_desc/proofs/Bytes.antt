-- A spelling of bytes has short descriptors.
use Rattle.std.proofs.Common.{◌+◌, ◌<◌, List, [], ◌∷◌, ◌++◌, length, All}
use Rattle.std.specs.List.{AllByRecursion, flat_map}
use Rattle.std.proofs.lemmas.List.Elements.{All-from_recursion}
use Rattle.usb_desc.specs.declared.tree.ConfigTree.{ConfigTree}
use Rattle.usb_desc.specs.declared.tree.Alt.{Alt}
use Rattle.usb_desc.specs.declared.tree.End.{End}
use Rattle.usb_desc.specs.Spell.{end_bytes, alt_bytes, parts}
use Rattle.usb_desc.specs.Good.{IsByte, IsGood}

pub each_left : {X : Type 0} (P : X → Type 0) (xs ys : List X) → AllByRecursion P (xs ++ ys) → AllByRecursion P xs
each_left P [] ys h = tt
each_left P (x ∷ xs) ys h = (h.0, each_left P xs ys h.1)

pub each_right : {X : Type 0} (P : X → Type 0) (xs ys : List X) → AllByRecursion P (xs ++ ys) → AllByRecursion P ys
each_right P [] ys h = h
each_right P (x ∷ xs) ys h = each_right P xs ys h.1

-- what holds of each part of what pieces make holds of each piece
pub each_piece : {X Y : Type 0} (P : Y → Type 0) (f : X → List Y) (xs : List X) → AllByRecursion P (flat_map f xs) → AllByRecursion (λ x. AllByRecursion P (f x)) xs
each_piece P f [] h = tt
each_piece P f (x ∷ xs) h = (each_left P (f x) (flat_map f xs) h, each_piece P f xs (each_right P (f x) (flat_map f xs) h))

short_ends : (ends : List End) → AllByRecursion (λ e. AllByRecursion IsByte (end_bytes e)) ends → AllByRecursion (λ (e : End). 7 + length e.tail < 256) ends
short_ends [] h = tt
short_ends (e ∷ ends) h = (h.0.0, short_ends ends h.1)

pub alt_short : (a : Alt) → AllByRecursion IsByte (alt_bytes a) → 9 + length a.tail < 256
alt_short a h = h.0

alt_ends : (a : Alt) → AllByRecursion IsByte (alt_bytes a) → AllByRecursion IsByte (flat_map end_bytes a.ends)
alt_ends a h = each_right IsByte (a.tail ++ a.extras) (flat_map end_bytes a.ends) h.1.1.1.1.1.1.1.1.1

pub ends_short : (a : Alt) → AllByRecursion IsByte (alt_bytes a) → All (λ (e : End). 7 + length e.tail < 256) a.ends
ends_short a h = All-from_recursion (λ (e : End). 7 + length e.tail < 256) a.ends (short_ends a.ends (each_piece IsByte end_bytes a.ends (alt_ends a h)))

pub config_short : (c : ConfigTree) → IsGood c → 9 + length c.tail < 256
config_short c h = h.bytes.0

pub alts_short : (c : ConfigTree) → IsGood c → All (λ (a : Alt). AllByRecursion IsByte (alt_bytes a)) c.alts
alts_short c h =
    All-from_recursion (λ (a : Alt). AllByRecursion IsByte (alt_bytes a)) c.alts
    (each_piece IsByte alt_bytes c.alts (each_right IsByte c.extras (flat_map alt_bytes c.alts) (each_right IsByte c.tail (parts c) h.bytes.1.1.1.1.1.1.1.1.1)))
